-- The bits that hold a tree: 10, and then for each node its degree in ones and a zero.
use Rattle.std.specs.Prelude.{◌≡◌, ℕ, ◌+◌, ◌-◌, ◌*◌, ◌^◌, ◌<◌, ◌≤◌, Bool, true, false, List, map, length, take, slice_index, sum}
use Rattle.std.specs.Int.{div_ceil}
use Rattle.std.specs.List.{range_with_len}
use Rattle.bit_lists.specs.Bits.{item}
use Rattle.bit_lists.specs.Count.{bit_positions, Picks}
use Rattle.louds.specs.Tree.{IsTree, IsChild}

-- the position of the zero before the ones of node j; where j is the number of nodes, of the last zero
abbrev pub zero_position : List ℕ → ℕ → ℕ
zero_position d j = 1 + j + sum (take j d)

-- the bits at the positions up to the zero before node n are those of the first n nodes
pub record IsWritten (d : List ℕ) (n : ℕ) (b : List Bool) : Type 0 where
  pub root : item b 0 ≡ true
  pub zeros : (j : ℕ) → j ≤ n → item b (zero_position d j) ≡ false
  pub ones : (j p : ℕ) → j < n → zero_position d j < p → p < zero_position d (j + 1) → item b p ≡ true

-- as many words as hold the bits of n nodes
abbrev pub tree_words : ℕ → ℕ
tree_words n = div_ceil (2 * n + 1) 64

-- the bits hold the tree of the degrees, in no more words than it takes: zero j stands at its position, for each node
-- and at the end
pub record IsHeld (d : List ℕ) (n : ℕ) (b : List Bool) : Type 0 where
  pub count : n ≡ length d
  pub tree : IsTree d
  pub short : n < 2 ^ 60
  pub tight : length b ≡ 64 * tree_words n
  pub zeros : (j : ℕ) → j ≤ n → Picks b false j (zero_position d j)

-- the degrees of the n nodes that bits hold: how many ones stand between two zeros
abbrev pub degrees_of : List Bool → ℕ → List ℕ
degrees_of b n = map (λ i. slice_index (bit_positions false 0 b) (i + 1) - slice_index (bit_positions false 0 b) i - 1) (range_with_len 0 n)

-- the one of node v stands at position p: at the first position for the root, else k positions after the first of its parent i
abbrev pub IsOneOf : List ℕ → ℕ → ℕ → Type 0
IsOneOf d v p = (v ≡ 0 → p ≡ 0) × (0 < v → (i : ℕ) × (k : ℕ) × (i < v) × IsChild d i k v × (p ≡ zero_position d i + 1 + k))
