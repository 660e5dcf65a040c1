-- A cursor as C passes it: the numbers from it on, and when they are those of its sequence.
use Rattle.std.specs.Prelude.{◌≡◌, ℕ, ◌≤◌, List, drop}
use Rattle.bitm_tables.specs.declared.answer.Answer.{Answer}
use Rattle.elias_fano.specs.SequenceParts.{Holds}
use Rattle.elias_fano.specs.Parts.{items_of}
use Rattle.postings.specs.Moves.{IfFound, IsAnswered, IsHere, IsMove}
use Rattle.postings.specs.declared.spot.Spot.{Spot}
use Rattle.postings.specs.declared.merged.Merged.{Merged}
use Rattle.postings.specs.declared.merged.Merged.TheVariants.{Done, Wrong}
use Rattle.bitm_abi.specs.Sequence.{sequence_parts, IsSequenceSized}
use Rattle.bitm_abi.specs.declared.sequence.Sequence.{Sequence}
use Rattle.bitm_numbers_c.specs.declared.cursors.cursor.Cursor.{Cursor}

-- the items that the parts hold, if they are those of a sequence
abbrev pub sequence_items : Sequence → List ℕ
sequence_items sequence = items_of sequence.len sequence.width sequence.low.now sequence.words.now

-- where the cursor stands
abbrev pub spot_of : Cursor → Spot
spot_of cursor = record { at = cursor.index; one = cursor.position; number = cursor.number }

-- the numbers from the cursor on
abbrev pub left_in : Cursor → List ℕ
left_in cursor = drop cursor.index (sequence_items cursor.sequence)

-- its sequence has the right lengths
abbrev pub IsCursorSized : Cursor → Type 0
IsCursorSized cursor = IsSequenceSized cursor.sequence

-- the parts are those of a sequence, and the cursor stands at one of its numbers or at its end
pub record IsRight (cursor : Cursor) : Type 0 where
  pub sized : IsSequenceSized cursor.sequence
  pub parts : Holds (sequence_items cursor.sequence) (sequence_parts cursor.sequence)
  pub here : IsHere (sequence_items cursor.sequence) cursor.sequence.words.now cursor.sequence.len (spot_of cursor)

-- from a spot of the sequence to the first number from there on that is at least v
abbrev pub IsMoveIn : Sequence → ℕ → Spot → Answer ℕ → Spot → Type 0
IsMoveIn sequence v old answer new = IsMove (sequence_items sequence) sequence.words.now sequence.len v old answer new

-- the first number from the cursor on that is at least v, where the cursor is right; a number that is at least v
-- whatever it holds
pub record IsNextFromCursor (old : Cursor) (v : ℕ) (new : Cursor) (answer : Answer ℕ) : Type 0 where
  pub at_least : IfFound answer (λ x. v ≤ x)
  pub next : IsRight old → IsAnswered (left_in old) v answer (left_in new)
  pub stays : IsRight old → IsRight new

-- the status of a merge, and the number before and after the call
abbrev pub IsMergeStatus : Merged → ℕ → ℕ → ℕ → Type 0
IsMergeStatus (Done n) status old new = (status ≡ 0) × (new ≡ n)
IsMergeStatus (Wrong n) status old new = (status ≡ 3) × (new ≡ old)
