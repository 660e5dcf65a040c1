-- What the exported calls answer of numbers around a value.
use Rattle.std.specs.Prelude.{◌≡◌, ◌≢◌, ℕ, ◌≤◌, ◌↔◌, ◌⊎◌, List}
use Rattle.std.specs.List.{Contains}
use Rattle.elias_fano.specs.SequenceParts.{Holds}
use Rattle.elias_fano.specs.Claims.{ClaimsLess}
use Rattle.bitm_abi.specs.Sequence.{sequence_parts, IsPredecessor, IsSequenceSized}
use Rattle.bitm_abi.specs.Status.{Exported}
use Rattle.bitm_abi.specs.declared.sequence.Sequence.{Sequence}

abbrev pub LastAnswered : Sequence → ℕ → ℕ → ℕ → ℕ → Type 0
LastAnswered sequence value = Exported (IsSequenceSized sequence) (IsPredecessor value (sequence_parts sequence))

-- whether value is one of the numbers: the status, and the answer before and after the call; whatever the parts hold,
-- they claim how many numbers are less, and the answer is 0 where that is all of them
pub record ContainsAnswered (sequence : Sequence) (value status old new : ℕ) : Type 0 where
  pub kept : status ≢ 0 → new ≡ old
  pub bad : ¬ (IsSequenceSized sequence) → status ≡ 2
  pub good : IsSequenceSized sequence → (status ≡ 0) ⊎ (status ≡ 3)
  pub truth : status ≡ 0 → new ≤ 1
  pub less : status ≡ 0 → (p : ℕ) × ClaimsLess (sequence_parts sequence) value p × (p ≡ sequence.len → new ≡ 0)
  pub claimed : IsSequenceSized sequence → (xs : List ℕ) → Holds xs (sequence_parts sequence) → status ≡ 0
  pub right : (xs : List ℕ) → Holds xs (sequence_parts sequence) → status ≡ 0 → (new ≡ 1) ↔ Contains xs value
