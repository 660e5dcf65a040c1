-- Whether a value is one of the numbers is what is reported.
use Rattle.std.proofs.Common.{◌≡◌, ℕ, ◌↔◌, Bool, true, false, IsTrue, List, inl, refl, arith}
use Rattle.std.proofs.lemmas.Bool.{false≢true}
use Rattle.std.specs.List.{Contains}
use Rattle.elias_fano.specs.SequenceParts.{Holds}
use Rattle.elias_fano.specs.Claims.{ClaimsLess}
use Rattle.bitm_c.specs.Numbers.{ContainsAnswered}
use Rattle.bitm_abi.specs.Sequence.{sequence_parts, IsSequenceSized}
use Rattle.bitm_abi.specs.declared.sequence.Sequence.{Sequence}

-- whether a value is one of the numbers, as 0 or 1
pub contained_of : (sequence : Sequence) → IsSequenceSized sequence → (v old new : ℕ) (is : Bool) → (is ≡ true → new ≡ 1) → (is ≡ false → new ≡ 0)
    → (p : ℕ) × ClaimsLess (sequence_parts sequence) v p × (p ≡ sequence.len → is ≡ false) → ((xs : List ℕ) → Holds xs (sequence_parts sequence) → IsTrue is ↔ Contains xs v) → ContainsAnswered sequence v 0 old new
contained_of sequence sized v old new true one zero less answer = record {
  kept = λ not. absurd (not refl);
  bad = λ no. absurd (no sized);
  good = λ _. inl refl;
  truth = λ _. omega (arith, one refl);
  less = λ _. (less.0, less.1, λ all. zero (less.2 all));
  claimed = λ _ _ _. refl;
  right = λ xs h _. (λ _. (answer xs h).0 refl, λ _. one refl);
}
contained_of sequence sized v old new false one zero less answer = record {
  kept = λ not. absurd (not refl);
  bad = λ no. absurd (no sized);
  good = λ _. inl refl;
  truth = λ _. omega (arith, zero refl);
  less = λ _. (less.0, less.1, λ all. zero (less.2 all));
  claimed = λ _ _ _. refl;
  right = λ xs h _. (λ e. absurd (omega (arith, e, zero refl)), λ held. absurd (false≢true ((answer xs h).1 held)));
}
