-- Numbers each greater than the one before it are positions below an end exactly where the last is.
use Rattle.std.proofs.Common.{◌≡◌, ℕ, zero, suc, ◌+◌, ◌-◌, ◌<◌, ◌↔◌, Bool, true, List, length, get_or, ap, ⊎_elim, arith}
use Rattle.std.proofs.lemmas.Bool.{cases_lt}
use Rattle.std.specs.List.Sorted.{IsStrictlyIncreasing}
use Rattle.sparse_bits.specs.Positions.{AreBitPositions, Rises}

module _ (xs : List ℕ) where
  steps : IsStrictlyIncreasing xs → (i d : ℕ) → i + suc d < length xs → get_or xs i 0 < get_or xs (i + suc d) 0
  steps rise i zero less =
      let next : i + suc zero ≡ i + 1 = omega arith in
      omega (arith, rise i (omega (arith, less)), ap (λ k. get_or xs k 0) next)
  steps rise i (suc d) less =
      let next : i + suc (suc d) ≡ i + suc d + 1 = omega arith in
      omega (arith, steps rise i d (omega (arith, less)), rise (i + suc d) (omega (arith, less)), ap (λ k. get_or xs k 0) next)

  rises : IsStrictlyIncreasing xs → Rises xs
  rises rise i j before inside =
      let to : i + suc (j - i - 1) ≡ j = omega arith in
      omega (arith, steps rise i (j - i - 1) (omega (arith, inside)), ap (λ k. get_or xs k 0) to)

  pub positions-none : (end : ℕ) → length xs ≡ 0 → AreBitPositions end 0 xs
  positions-none end none = record {
    rising = λ i j before inside. absurd (omega (arith, inside, none));
    from = λ i less. omega arith;
    below = λ i less. absurd (omega (arith, less, none));
  }

  pub positions-by-last : (end : ℕ) → 0 < length xs → get_or xs (length xs - 1) 0 < end → (r : Bool) → (r ≡ true) ↔ IsStrictlyIncreasing xs
      → (r ≡ true) ↔ AreBitPositions end 0 xs
  positions-by-last end some less r is = (
    λ yes.
        let all = rises (is.0 yes) in
        record {
          rising = all;
          from = λ i inside. omega arith;
          below = λ i inside. ⊎_elim
              (λ before. omega (arith, all i (length xs - 1) before (omega (arith, some)), less))
              (λ last. let same : i ≡ length xs - 1 = omega (arith, inside, last) in omega (arith, ap (λ k. get_or xs k 0) same, less))
              (cases_lt i (length xs - 1));
        },
    λ positions. is.1 (λ k inside. positions.rising k (k + 1) (omega arith) inside),
  )
