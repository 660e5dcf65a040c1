-- The seeds of a level, and the slots of its hashes as bits.
use Rattle.std.specs.Prelude.{◌≡◌, ℕ, ◌+◌, ◌*◌, ◌^◌, ◌<◌, ◌≤◌, ◌==◌, Bool, not, ◌&&◌, if◌then◌else◌, List, count_by, filter, length, map, slice_index}
use Rattle.bit_lists.specs.Bits.{item}
use Rattle.hash_buckets.specs.declared.positions.Level.{Level}
use Rattle.hash_buckets.specs.Positions.{bucket_of, next_of, slice_of, slot_of, IsBucketLevel}

-- how many 1 bits a bit is
abbrev pub one_if : Bool → ℕ
one_if bit = if bit then 1 else 0

-- how many of the hashes have slot q by this seed, where the level's slots begin at number `first`
abbrev pub count_at : Level → ℕ → ℕ → List ℕ → ℕ → ℕ
count_at level seed first hashes q = count_by (λ hash. first + slot_of level seed hash == q) hashes

-- the slices of the first hashes begin there, and end inside the level
pub record AreBegins (level : Level) (hashes : List ℕ) (some : ℕ) (begins : List ℕ) : Type 0 where
  pub enough : some ≤ length begins
  pub are : (k : ℕ) → k < some → slice_index begins k ≡ slice_of level (slice_index hashes k)
  pub inside : (k : ℕ) → k < some → slice_index begins k + level.slice ≤ level.slots

-- by this seed the hashes have slots of their own, whose bits are 0
abbrev pub HaveFreeSlots : Level → ℕ → ℕ → List ℕ → List Bool → Type 0
HaveFreeSlots level seed first hashes used = (q : ℕ) → count_at level seed first hashes q + one_if (item used q) ≤ 1

-- a bit becomes 1 for each item that is counted at it, and all others stay
abbrev pub AddsBits : List Bool → (ℕ → ℕ) → List Bool → Type 0
AddsBits old count new = (q : ℕ) → one_if (item new q) ≡ one_if (item old q) + count q

-- whether a hash has a seed other than 0, and by it slot q
abbrev pub has_slot : Level → List ℕ → ℕ → ℕ → ℕ → Bool
has_slot level seeds first q hash =
    let seed = slice_index seeds (bucket_of level hash) in not (seed == 0) && (first + slot_of level seed hash == q)

-- as seeds change, the bits of the slots that hashes have by them become 1, and all others stay
abbrev pub AddsSlots : Level → ℕ → List ℕ → List Bool → List ℕ → List Bool → List ℕ → Type 0
AddsSlots level first hashes old old_seeds new new_seeds =
    (q : ℕ) → one_if (item new q) + count_by (has_slot level old_seeds first q) hashes
    ≡ one_if (item old q) + count_by (has_slot level new_seeds first q) hashes

-- the hashes whose seed is 0, as they are in the next level
abbrev pub next_hashes : Level → List ℕ → List ℕ → List ℕ
next_hashes level seeds hashes = map next_of (filter (λ hash. slice_index seeds (bucket_of level hash) == 0) hashes)

-- a level, whose slots from number `first` on have bits in the given number of words
pub record FitsWords (level : Level) (first words : ℕ) : Type 0 where
  pub level_is : IsBucketLevel level
  pub inside : first + level.slots ≤ 64 * words
  pub short : words < 2 ^ 52
