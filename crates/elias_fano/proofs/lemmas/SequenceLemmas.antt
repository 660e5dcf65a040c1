-- Numbers that were tested are a sequence, and what the first position that reaches a value parts.
use Rattle.std.proofs.Common.{◌≡◌, ℕ, ◌+◌, ◌^◌, ◌<◌, ◌≤◌, ◌↔◌, List, length, get_or, sym, ◌∙◌, ⊎_elim, arith}
use Rattle.std.proofs.lemmas.Bool.{cases_lt}
use Rattle.std.proofs.lemmas.List.{get_or_default}
use Rattle.std.specs.List.{All, Contains}
use Rattle.std.specs.List.Sorted.{IsNonDecreasing}
use Rattle.elias_fano.specs.Sequence.{IsSequence, Reaches, ReachesTo}

pub is_sequence : (xs : List ℕ) → length xs < 2 ^ 56 → IsNonDecreasing xs → ((k : ℕ) → get_or xs k 0 < 2 ^ 64) → IsSequence xs
is_sequence xs short rising fits = record {
  rising = rising;
  short = short;
  small = λ k d inside. omega (arith, get_or_default xs k d 0 inside, fits k);
}

-- what stands from that position on reaches the value too
pub reached-from : (xs : List ℕ) (v i j : ℕ) → IsNonDecreasing xs → Reaches xs v i → j < length xs → (v ≤ get_or xs j 0) ↔ (i ≤ j)
reached-from xs v i j rising h inside = (
  λ reaches. ⊎_elim (λ less. absurd (omega (arith, reaches, h.before j less))) (λ from. from) (cases_lt j i),
  λ from. omega (arith, h.at_least, rising i j 0 from inside),
)

-- and no item before the first that reaches an item is equal to it
pub first-of-equal : (xs : List ℕ) (i k : ℕ) → IsNonDecreasing xs → i < length xs → Reaches xs (get_or xs i 0) k
    → (get_or xs k 0 ≡ get_or xs i 0) × ((j : ℕ) → get_or xs j 0 ≡ get_or xs i 0 → j < length xs → k ≤ j)
first-of-equal xs i k rising inside h =
    let here : get_or xs i 0 ≤ get_or xs i 0 = omega arith in
    let before : k ≤ i = (reached-from xs (get_or xs i 0) k i rising h inside).0 here in (
      omega (arith, h.at_least, rising k i 0 before inside),
      λ j same within. (reached-from xs (get_or xs i 0) k j rising h within).0 (omega arith),
    )

-- the first that reaches the next number comes after all that are at most this one
pub reaches-next : (xs : List ℕ) (v i : ℕ) → IsNonDecreasing xs → Reaches xs (v + 1) i → ReachesTo xs v i
reaches-next xs v i rising h = record {
  bound = omega (arith, h.inside);
  below = λ j less. omega (arith, h.before j less);
  above = λ j from inside. omega (arith, h.at_least, rising i j 0 from inside);
}

-- and where none reaches it, all are
pub reaches-none : (xs : List ℕ) (v n : ℕ) → n ≡ length xs → All (λ x. x < v + 1) xs → ReachesTo xs v n
reaches-none xs v n count less = record {
  bound = omega arith;
  below = λ j before. omega (arith, less j 0 (omega arith));
  above = λ j from inside. absurd (omega arith);
}

-- a number is contained exactly where the first that reaches it is the number
pub contains-first : (xs : List ℕ) (v i : ℕ) → IsNonDecreasing xs → Reaches xs v i → (get_or xs i 0 ≡ v) ↔ Contains xs v
contains-first xs v i rising h = (
  λ same. (i, h.inside, get_or_default xs i v 0 h.inside ∙ same),
  λ held.
      let there = sym (get_or_default xs held.0 v 0 held.1) ∙ held.2 in
      let before = (reached-from xs v i held.0 rising h held.1).0 (omega (arith, there)) in
      omega (arith, there, h.at_least, rising i held.0 0 before held.1),
)
