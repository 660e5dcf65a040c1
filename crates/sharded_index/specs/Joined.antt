-- The bits of several bit vectors, one after the other, and how many of them there are before each.
use Rattle.std.specs.Prelude.{◌≡◌, ℕ, ◌+◌, ◌≤◌, Bool, true, false, List, [], ◌∷◌, ◌++◌, length, take, sum, slice_index, slice_index_or}
use Rattle.bit_lists.specs.Count.{count_of}
use Rattle.sharded_index.specs.declared.counts.Kind.{Kind}
use Rattle.sharded_index.specs.declared.counts.Kind.TheVariants.{Positions, Zeros, Ones}

-- the bits of each bit vector, one after the other
abbrev pub joined : List (List Bool) → List Bool
joined [] = []
joined (b ∷ bs) = b ++ joined bs

-- those of the first k bit vectors
abbrev pub joined_to : List (List Bool) → ℕ → List Bool
joined_to bs k = joined (take k bs)

-- bit vector k, which is empty past the last
abbrev pub shard_at : List (List Bool) → ℕ → List Bool
shard_at bs k = slice_index_or bs k []

-- how many bits of a kind there are
abbrev pub count_of_kind : Kind → List Bool → ℕ
count_of_kind Positions b = length b
count_of_kind Zeros b = count_of b false
count_of_kind Ones b = count_of b true

-- the kind of a bit
abbrev pub kind_of : Bool → Kind
kind_of true = Ones
kind_of false = Zeros

-- number k is the sum of the numbers before number k, and the last one that of all
pub record IsPrefixSums (numbers sums : List ℕ) : Type 0 where
  pub len : length sums ≡ length numbers + 1
  pub sum_before : (k : ℕ) → k ≤ length numbers → slice_index sums k ≡ sum (take k numbers)
