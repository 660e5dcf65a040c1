-- What the exported calls on sequences answer: a status, and a number written where the caller says.
use Rattle.std.specs.Prelude.{ℕ, List}
use Rattle.elias_fano.specs.SequenceParts.{AreHeldParts, SequenceParts}
use Rattle.elias_fano.specs.Answers.{IsItem, IsOfIndex, IsIndexIn, IsSuccessorOf}
use Rattle.elias_fano.specs.Claims.{ClaimLess, IfIndex}
use Rattle.bitm_tables.specs.Tables.{Lists}
use Rattle.bitm_tables.specs.declared.answer.Answer.{Answer}
use Rattle.bitm_abi.specs.Sequence.{sequence_parts, IsSequenceSized}
use Rattle.bitm_abi.specs.Status.{Exported}
use Rattle.bitm_abi.specs.declared.sequence.Sequence.{Sequence}

-- A status is 0 where the answer was written, 1 where there is no such number, 2 where a length is wrong, 3 where the
-- parts are not those of a sequence, and 4 where a number is less than the number before it.

-- number index of five parts
pub record FindsItem (index len width : ℕ) (low : List ℕ) (upper : Lists) (hints : List ℕ) (answer : Answer ℕ) : Type 0 where
  pub inside : IsOfIndex len index answer
  pub counts : (xs : List ℕ) → AreHeldParts xs len width low upper hints → IsItem xs index answer

-- number index of a sequence
abbrev pub IsNumber : ℕ → SequenceParts → Answer ℕ → Type 0
IsNumber index parts = FindsItem index parts.len parts.width parts.low parts.upper parts.hints

abbrev pub ItemAnswered : Sequence → ℕ → ℕ → ℕ → ℕ → Type 0
ItemAnswered sequence index = Exported (IsSequenceSized sequence) (IsNumber index (sequence_parts sequence))

-- the successor of value: the index of the first number that is at least value; whatever the parts hold, they claim
-- that all numbers before that index are less, or all numbers where the answer is that there is none
pub record FindsFirst (value len width : ℕ) (low : List ℕ) (upper : Lists) (hints : List ℕ) (answer : Answer ℕ) : Type 0 where
  pub inside : IsIndexIn len answer
  pub less : IfIndex len answer (ClaimLess len width low upper value)
  pub counts : (xs : List ℕ) → AreHeldParts xs len width low upper hints → IsSuccessorOf xs value answer

-- the successor in a sequence
abbrev pub IsSuccessor : ℕ → SequenceParts → Answer ℕ → Type 0
IsSuccessor value parts = FindsFirst value parts.len parts.width parts.low parts.upper parts.hints

abbrev pub PositionAnswered : Sequence → ℕ → ℕ → ℕ → ℕ → Type 0
PositionAnswered sequence value = Exported (IsSequenceSized sequence) (IsSuccessor value (sequence_parts sequence))
