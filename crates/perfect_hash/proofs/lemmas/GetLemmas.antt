-- A look-up, level by level.
use Rattle.std.proofs.Common.{◌≡◌, ℕ, ◌+◌, ◌*◌, ◌/◌, ◌<◌, Bool, Option, true, false, List, length, take, ◌≤◌, slice_index, sym, ap, ◌∙◌, ⊎_elim, arith}
use Rattle.std.proofs.lemmas.Bool.{cases_lt}
use Rattle.std.proofs.lemmas.List.{get_or_default, get_or_past, take_all}
use Rattle.std.proofs.lemmas.List.Sums.{sum_by_more_le}
use Rattle.std.specs.List.{sum}
use Rattle.bit_lists.specs.Bits.{item}
use Rattle.bit_lists.specs.Count.{ones_before, ones_of}
use Rattle.bit_lists.proofs.BitLaws.{counts_grow}
use Rattle.bitm_select.specs.Answers.{position_in}
use Rattle.bitm_tables.specs.declared.answer.Answer.{Answer}
use Rattle.bitm_tables.specs.declared.answer.Answer.TheVariants.{Found, Absent, Wrong}
use Rattle.perfect_hash.specs.Numbers.{AreSizes}
use Rattle.perfect_hash.specs.Asking.{IsNumbered}
use Rattle.perfect_hash.specs.Placed.{FitIn}
use Rattle.perfect_hash.proofs.lemmas.LevelLemmas.{one_more_after}

-- the rank of a one is less than the count of ones
pub one_counted : (b : List Bool) (p : ℕ) → item b p ≡ true → ones_before b p < ones_of b
one_counted b p one =
    ⊎_elim
    (λ inside. omega (arith, one_more_after b p inside one, counts_grow b true (p + 1) (length b) (omega arith)))
    (λ past. absurd (no (sym (get_or_past b p false past) ∙ one)))
    (cases_lt p (length b))
  where
    no : false ≡ true → ⊥
    no h = cc

-- a level of sizes that fit lies within the words, and has one
pub level_fits : (sizes : List ℕ) (words level begin : ℕ) → FitIn words sizes → level < length sizes
    → begin ≡ sum (take level sizes) → (0 < slice_index sizes level) × (begin + slice_index sizes level ≤ words)
level_fits sizes words level begin h inside begins =
    (h.some level 0 inside, omega (arith, h.within, begins, sum_by_more_le (λ x. x) sizes level 0 inside))

-- sizes of levels fit
pub sizes_fit : (sizes : List ℕ) (b : List Bool) (words : ℕ) → AreSizes sizes b → length b ≡ 64 * words → FitIn words sizes
sizes_fit sizes b words h long = record { some = h.some; within = omega (arith, h.all, long) }

-- sizes of levels fill the words of the bits
pub sizes_fill : (sizes : List ℕ) (b : List Bool) → AreSizes sizes b → FitIn (length b / 64) sizes
sizes_fill sizes b h = record { some = h.some; within = omega (arith, h.all) }

-- what is found is the number that there is
pub numbered_found : (number : Option ℕ) (a : Answer ℕ) → IsNumbered number a → position_in a ≡ number
numbered_found number (Found n) is = sym is
numbered_found number Absent is = sym is
numbered_found number Wrong is = absurd is

-- levels that were all looked at fit
pub all_fit : (sizes : List ℕ) (words level begin : ℕ) → ((i : ℕ) → i < level → 0 < slice_index sizes i) → length sizes ≤ level
    → begin ≡ sum (take level sizes) → begin ≤ words → FitIn words sizes
all_fit sizes words level begin some all begins inside = record {
  some = λ i d less. omega (arith, some i (omega (arith, less, all)), get_or_default sizes i d 0 less);
  within = omega (arith, begins, inside, ap sum (take_all level sizes all));
}
