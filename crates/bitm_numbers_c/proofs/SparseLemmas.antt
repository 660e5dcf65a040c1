-- Where no error is answered, positions rise below the number of bits, are few enough, and the block is as long as theirs.
use Rattle.std.proofs.Common.{◌≡◌, ◌≢◌, ℕ, ◌^◌, ◌<◌, ◌≤◌, List, length, inl, inr, subst, arith}
use Rattle.std.proofs.lemmas.Bool.{cases_eq}
use Rattle.std.specs.Prelude.{Result, Ok, Err, IfErr, IfOk, IsErrOf}
use Rattle.bitm_block.specs.Layout.{end_of}
use Rattle.sequence_block.specs.Block.{sections_of}
use Rattle.sparse_bits.specs.Positions.{AreBitPositions}
use Rattle.sequence_block.specs.SparseBlock.{CanHold}
use Rattle.sequence_block.specs.declared.sparse.error.BuildError.{BuildError}
use Rattle.sequence_block.specs.declared.sparse.error.BuildError.TheVariants.{TooLong, WrongLength}

no_error : {V : Type 0} (v : V) (e : BuildError) → ¬ (◌≡◌ {A = Result V BuildError} (Ok v) (Err e))
no_error {V = V} v e is = subst (λ (r : Result V BuildError). IfErr r (λ _. ⊥)) is tt

pub can_hold : {V : Type 0} (r : Result V BuildError) (xs : List ℕ) (n : ℕ) (block : List ℕ) → (2 ^ 56 ≤ length xs → IsErrOf r TooLong)
    → ((length xs < 2 ^ 56) × (length block ≢ end_of (sections_of xs)) → IsErrOf r WrongLength)
    → IfOk r (λ _. AreBitPositions n 0 xs → CanHold xs n block)
can_hold (Err e) xs n block long other = tt
can_hold (Ok v) xs n block long other = λ positions.
    let not_long : ¬ (2 ^ 56 ≤ length xs) = λ h. no_error v TooLong (long h) in
    let short : length xs < 2 ^ 56 = omega (arith, not_long) in
    let room : length block ≡ end_of (sections_of xs) =
    elim (cases_eq (length block) (end_of (sections_of xs))) [
      | inl is ↦ is
      | inr is_not ↦ absurd (no_error v WrongLength (other (short, is_not)))
    ] in
    record { short = short; positions = positions; room = room }
