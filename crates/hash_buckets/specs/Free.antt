-- The free slots below n, for which the slots from n on stand.
use Rattle.std.specs.Prelude.{◌≡◌, ℕ, ◌+◌, ◌<◌, ◌≤◌, Bool, true, false, List, All, length, slice_index}
use Rattle.bit_lists.specs.Bits.{item}
use Rattle.bit_lists.specs.Count.{ones_before}
use Rattle.hash_buckets.specs.Parts.{NeverFall}

-- the bit of each slot that a hash has is 1: item i of the list is a free slot below n for slot n + i where that is
-- used, and no item is less than one before it
pub record StandForUsed (used : List Bool) (n : ℕ) (free : List ℕ) : Type 0 where
  pub below : All (λ slot. slot < n) free
  pub rise : NeverFall free
  pub clear : (i : ℕ) → i < length free → item used (n + i) ≡ true → item used (slice_index free i) ≡ false
  pub apart : (i j : ℕ) → i < j → j < length free → item used (n + i) ≡ true → item used (n + j) ≡ true → slice_index free i < slice_index free j

-- the free slots before `at` stand for the used slots from n on before slot n + i
abbrev pub AreTaken : List Bool → ℕ → ℕ → ℕ → Type 0
AreTaken used n i at = at + ones_before used n ≡ ones_before used (n + i) + ones_before used at

-- what stands for slot n + i where `last` stood for the one before it, and the free slots before `at` are taken
pub record StandsNext (used : List Bool) (n i last at slot next : ℕ) : Type 0 where
  pub rises : last ≤ slot
  pub below : slot < n
  pub later : at ≤ next
  pub reached : slot ≤ next
  pub within : next ≤ n
  pub taken : AreTaken used n (i + 1) next
  pub clear : item used (n + i) ≡ true → item used slot ≡ false
  pub from : item used (n + i) ≡ true → at ≤ slot
  pub past : item used (n + i) ≡ true → slot < next
