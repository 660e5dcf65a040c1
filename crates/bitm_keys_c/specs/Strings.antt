-- Strings in a block as C passes them, and what the exported calls answer.
use Rattle.std.specs.Prelude.{◌≡◌, ℕ, ◌-◌, ◌^◌, ◌<◌, List, length, slice_index}
use Rattle.bitm_tables.specs.declared.answer.Answer.{Answer}
use Rattle.bitm_abi.specs.HashBlock.{hash_parts}
use Rattle.bitm_abi.specs.Status.{Exported}
use Rattle.hash_block.specs.Parts.{HasLengths, HashParts}
use Rattle.hash_block.specs.StringsBlock.{CanHold}
use Rattle.hash_block.specs.StringsParts.{AreStrings, HasStringStarts, IsNotWrong, IsPiece, IsStringFound, IsStringHeld, StringParts}
use Rattle.bitm_keys_c.specs.declared.strings.strings.Strings.{Strings}

-- A status is 0 where the answer was written, 1 where there is no such string or number, 2 where a length or the kind is
-- wrong, and 3 where the parts are not those of strings.

-- the kind, a hash, where strings begin, and their bytes
abbrev pub string_parts : Strings → StringParts
string_parts strings = record {
  kind = strings.kind;
  hash = hash_parts strings.hash strings.seed;
  starts = strings.starts.now;
  bytes = strings.bytes.now;
}

-- a hash of the right lengths, and strings and a block that can be theirs
pub record AreWritableStrings (hash : HashParts) (bytes ends block : List ℕ) : Type 0 where
  pub sized : HasLengths hash
  pub holds : CanHold hash bytes ends block

-- the number of a string: the string stands there, whatever the parts hold; and where they are those of strings, there is
-- none exactly for what is no string
pub record IsNumberOfString (string : ℕ → ℕ) (len : ℕ) (parts : StringParts) (answer : Answer ℕ) : Type 0 where
  pub held : IsStringHeld parts string len answer
  pub right : AreStrings parts → IsStringFound parts string len answer

-- where the string of a number stands, and how many bytes it has: they stand in the words, whatever the parts hold
pub record IsPieceOf (number : ℕ) (parts : StringParts) (answer : Answer (ℕ × ℕ)) : Type 0 where
  pub piece : IsPiece parts number answer
  pub right : AreStrings parts → IsNotWrong answer

-- the status, and the number before and after the call
abbrev pub FindAnswered : Strings → List ℕ → ℕ → ℕ → ℕ → Type 0
FindAnswered strings string =
    Exported (HasStringStarts (string_parts strings)) (IsNumberOfString (slice_index string) (length string) (string_parts strings))

abbrev pub GetAnswered : Strings → ℕ → ℕ → (ℕ × ℕ) → (ℕ × ℕ) → Type 0
GetAnswered strings number = Exported (HasStringStarts (string_parts strings)) (IsPieceOf number (string_parts strings))
