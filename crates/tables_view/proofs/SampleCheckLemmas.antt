-- Samples that are compared one after the other.
use Rattle.std.proofs.Common.{◌≡◌, ℕ, ◌+◌, List, slice_index, sym, ap, ◌∙◌, inl, inr, arith}
use Rattle.std.proofs.lemmas.Bool.{cases_lt}
use Rattle.tables_view.specs.Sizes.{IsFilled}

-- one more item is right
pub filled_next : (f : ℕ → ℕ) (xs : List ℕ) (n k : ℕ) → k ≡ n + 1 → IsFilled f xs n → slice_index xs n ≡ f n → IsFilled f xs k
filled_next f xs n k next before is j l =
    elim (cases_lt j n) [
      | inl less ↦ before j less
      | inr from ↦
          let e : j ≡ n = omega arith in
          ap (λ (k : ℕ). slice_index xs k) e ∙ (is ∙ ap f (sym e))
    ]
