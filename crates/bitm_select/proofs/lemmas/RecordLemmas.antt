-- The ones before each word of a record.
use Rattle.std.proofs.Common.{◌≡◌, ℕ, ◌+◌, ◌*◌, ◌<◌, ◌≤◌, Bool, List, length, slice_index, slice_set, subst, arith, inl, inr}
use Rattle.std.proofs.lemmas.Bool.{cases_lt}
use Rattle.std.proofs.lemmas.List.{get_or-set_same, get_or-set_other}
use Rattle.bit_lists.specs.Count.{ones_before}
use Rattle.bit_lists.proofs.Callers.{ones_grow}
use Rattle.bitm_select.specs.Search.{AreOnesToWords, CountsRise}

-- the counts of the words up to word k, and of the next one
pub counted_more : (m : List Bool) (first k v : ℕ) (counts : List ℕ) → k + 1 < length counts
    → ((j : ℕ) → j ≤ k → ones_before m (64 * first) + slice_index counts j ≡ ones_before m (64 * (first + j)))
    → ones_before m (64 * first) + v ≡ ones_before m (64 * (first + (k + 1))) → (j : ℕ) → j ≤ k + 1
    → ones_before m (64 * first) + slice_index (slice_set counts (k + 1) v) j ≡ ones_before m (64 * (first + j))
counted_more m first k v counts inside old new j h =
    elim (cases_lt j (k + 1)) [
      | inl below ↦
          omega (arith, get_or-set_other counts (k + 1) j v 0 (λ e. omega (arith, e, below)), old j (omega (arith, below)))
      | inr over ↦
          let e : k + 1 ≡ j = omega (arith, h, over) in
          subst (λ j. ones_before m (64 * first) + slice_index (slice_set counts (k + 1) v) j ≡ ones_before m (64 * (first + j))) e
          (omega (arith, get_or-set_same counts (k + 1) v 0 inside, new))
    ]

pub counts_rise : (m : List Bool) (first : ℕ) (counts : List ℕ) → AreOnesToWords m first counts → CountsRise counts
counts_rise m first counts are i j le h =
    omega (arith, are i (omega (arith, le, h)), are j h, ones_grow m (64 * (first + i)) (64 * (first + j)) (omega (arith, le)))
