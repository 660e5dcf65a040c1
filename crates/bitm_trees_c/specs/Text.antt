-- The index of a text in a block as C passes it, and what the exported calls answer.
use Rattle.std.specs.Prelude.{ℕ, ◌≤◌, List, length}
use Rattle.bitm_tables.specs.declared.answer.Answer.{Answer}
use Rattle.bitm_abi.specs.Status.{Exported}
use Rattle.text_index.specs.Answers.{AreLettersFrom, AreOccurrencesOf, AreOccurrencesWithin, ArePositionsOf, ArePositionsWithin, IsPartWithin}
use Rattle.text_block.specs.Block.{parts_of, text_of_parts, HasTextLengths, HoldsIndex, TextParts, bytes_of_parts}
use Rattle.text_index.specs.Bytes.{byte_width}
use Rattle.bitm_abi.specs.Matrix.{matrix_parts}
use Rattle.bitm_trees_c.specs.declared.text.Text.{Text}

-- A status is 0 where the answer was written, 1 where the text has fewer letters, 2 where a length is wrong, and 3 where the
-- parts are not those of an index.

-- the matrices of the letters and of the marks, the starts, the samples, the used bytes, the row of the whole text and the
-- step
abbrev pub text_parts : Text → TextParts
text_parts text =
    parts_of (matrix_parts text.letters) (matrix_parts text.marks) text.starts.now text.samples.now text.used.now text.first text.step

-- at how many positions a pattern stands: at no more than there are, whatever the parts hold, and it is the number of those
-- of the text, its letters or its bytes, where they hold an index
pub record IsCountIn (text_of : TextParts → List ℕ) (pattern : List ℕ) (parts : TextParts) (answer : Answer ℕ) : Type 0 where
  pub inside : AreOccurrencesWithin parts.tables.letters.len answer
  pub right : HoldsIndex parts → AreOccurrencesOf (text_of parts) pattern answer

-- the positions that were written to a list, likewise: each is one of the text, or its end
pub record ArePositionsIn (text_of : TextParts → List ℕ) (pattern : List ℕ) (from : ℕ) (old new : List ℕ) (parts : TextParts) (answer : Answer ℕ) : Type 0 where
  pub inside : ArePositionsWithin parts.tables.letters.len old new answer
  pub right : HoldsIndex parts → ArePositionsOf (text_of parts) pattern from (length old) new answer

-- the letters or bytes that were written to a list, likewise: one has no more bits than the width
pub record IsPartIn (text_of : TextParts → List ℕ) (width_of : TextParts → ℕ) (from : ℕ) (out : List ℕ) (parts : TextParts) (answer : Answer ℕ) : Type 0 where
  pub inside : IsPartWithin parts.tables.letters.len (width_of parts) from out answer
  pub right : HoldsIndex parts → AreLettersFrom (text_of parts) from out answer

-- how many bits a letter and a byte of the text have
abbrev pub letter_width : TextParts → ℕ
letter_width parts = parts.tables.letters.width

abbrev pub width_of_bytes : TextParts → ℕ
width_of_bytes parts = byte_width parts.used parts.tables.letters.width

-- the lengths are right, and the text is one of bytes
pub record HasBytes (parts : TextParts) : Type 0 where
  pub lengths : HasTextLengths parts
  pub narrow : width_of_bytes parts ≤ 8

-- the status, and the number before and after the call
abbrev pub TextCountAnswered : Text → List ℕ → ℕ → ℕ → ℕ → Type 0
TextCountAnswered text pattern = Exported (HasTextLengths (text_parts text)) (IsCountIn text_of_parts pattern (text_parts text))

abbrev pub CountOfBytesAnswered : Text → List ℕ → ℕ → ℕ → ℕ → Type 0
CountOfBytesAnswered text pattern = Exported (HasTextLengths (text_parts text)) (IsCountIn bytes_of_parts pattern (text_parts text))

abbrev pub PositionsAnswered : Text → List ℕ → ℕ → List ℕ → List ℕ → ℕ → ℕ → ℕ → Type 0
PositionsAnswered text pattern from old new =
    Exported (HasTextLengths (text_parts text)) (ArePositionsIn text_of_parts pattern from old new (text_parts text))

abbrev pub PositionsOfBytesAnswered : Text → List ℕ → ℕ → List ℕ → List ℕ → ℕ → ℕ → ℕ → Type 0
PositionsOfBytesAnswered text pattern from old new =
    Exported (HasTextLengths (text_parts text)) (ArePositionsIn bytes_of_parts pattern from old new (text_parts text))

-- the status, where the number is that of all the letters that there is room for
abbrev pub PartAnswered : Text → ℕ → List ℕ → ℕ → Type 0
PartAnswered text from out status =
    Exported (HasTextLengths (text_parts text)) (IsPartIn text_of_parts letter_width from out (text_parts text)) status
    (length out) (length out)

abbrev pub BytesAnswered : Text → ℕ → List ℕ → ℕ → Type 0
BytesAnswered text from out status =
    Exported (HasBytes (text_parts text)) (IsPartIn bytes_of_parts width_of_bytes from out (text_parts text)) status
    (length out) (length out)
