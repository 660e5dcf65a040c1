-- What the items of a list of answers stand for.
use Rattle.std.proofs.Common.{◌≡◌, ℕ, ◌↔◌, Bool, true, false, IsTrue, List, refl, sym, inl, arith}
use Rattle.std.proofs.lemmas.Bool.{false≢true}
use Rattle.std.specs.List.{Contains}
use Rattle.elias_fano.specs.SequenceParts.{Holds, SequenceParts}
use Rattle.elias_fano.specs.Claims.{ClaimsLess}
use Rattle.bitm_abi.specs.Sequence.{IsContained}

-- a truth is 0 or 1
pub contained_as : (value : ℕ) (parts : SequenceParts) (n : ℕ) (is : Bool) → (is ≡ true → n ≡ 1) → (is ≡ false → n ≡ 0)
    → (p : ℕ) × ClaimsLess parts value p × (p ≡ parts.len → is ≡ false)
    → ((xs : List ℕ) → Holds xs parts → IsTrue is ↔ Contains xs value) → IsContained value parts n
contained_as value parts n true one zero less answer =
    let is : n ≡ 1 = one refl in
    record {
      truth = inl (omega arith);
      less = λ _. (less.0, less.1, λ all. absurd (false≢true (sym (less.2 all))));
      right = λ xs h. (omega arith, (λ _. (answer xs h).0 refl, λ _. is));
    }
contained_as value parts n false one zero less answer =
    let is : n ≡ 0 = zero refl in
    record {
      truth = inl (omega arith);
      less = λ _. (less.0, less.1, λ _. is);
      right = λ xs h. (omega arith, (λ e. absurd (omega (arith, e, is)), λ held. absurd (false≢true ((answer xs h).1 held))));
    }
