-- Where no error is answered, the bits are few enough, the words have them, and the block is as long as theirs.
use Rattle.std.proofs.Common.{◌≡◌, ◌≢◌, ℕ, ◌-◌, ◌*◌, ◌^◌, ◌<◌, ◌≤◌, List, length, inl, inr, subst, arith}
use Rattle.std.proofs.lemmas.Bool.{cases_eq}
use Rattle.std.specs.Prelude.{Result, Ok, Err, IfErr, IfOk, IsErrOf}
use Rattle.bitm_block.specs.Layout.{end_of}
use Rattle.bitm_view.specs.BitsBlock.{bits_sections, CanHold}
use Rattle.bitm_view.specs.declared.bits.error.BuildError.{BuildError}
use Rattle.bitm_view.specs.declared.bits.error.BuildError.TheVariants.{TooLong, TooFewBits, WrongLength}

no_error : {V : Type 0} (v : V) (e : BuildError) → ¬ (◌≡◌ {A = Result V BuildError} (Ok v) (Err e))
no_error {V = V} v e is = subst (λ (r : Result V BuildError). IfErr r (λ _. ⊥)) is tt

pub can_hold : {V : Type 0} (r : Result V BuildError) (n : ℕ) (words block : List ℕ) → (2 ^ 64 - 64 < n → IsErrOf r TooLong)
    → ((n ≤ 2 ^ 64 - 64) × (64 * length words < n) → IsErrOf r TooFewBits)
    → ((n ≤ 2 ^ 64 - 64) × (n ≤ 64 * length words) × (length block ≢ end_of (bits_sections n)) → IsErrOf r WrongLength)
    → IfOk r (λ _. CanHold words n block)
can_hold (Err e) n words block long few other = tt
can_hold (Ok v) n words block long few other =
    let not_long : ¬ (2 ^ 64 - 64 < n) = λ h. no_error v TooLong (long h) in
    let short : n ≤ 2 ^ 64 - 64 = omega (arith, not_long) in
    let enough : ¬ (64 * length words < n) = λ h. no_error v TooFewBits (few (short, h)) in
    let source : n ≤ 64 * length words = omega (arith, enough) in
    let room : length block ≡ end_of (bits_sections n) =
    elim (cases_eq (length block) (end_of (bits_sections n))) [
      | inl is ↦ is
      | inr is_not ↦ absurd (no_error v WrongLength (other (short, source, is_not)))
    ] in
    record { source = source; short = short; room = room }
