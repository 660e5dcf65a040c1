-- Strings with a number each: a hash of them, where each begins, and their bytes.
use Rattle.std.specs.Prelude.{◌≡◌, ⊤, ℕ, ◌+◌, ◌-◌, ◌*◌, ◌^◌, ◌<◌, ◌≤◌, List, length, slice_index, Option, Some}
use Rattle.std.specs.Int.{div_ceil}
use Rattle.bitm_tables.specs.Tables.{bits_in}
use Rattle.bitm_tables.specs.Answers.{Right}
use Rattle.bitm_tables.specs.declared.answer.Answer.{Answer}
use Rattle.bitm_tables.specs.declared.answer.Answer.TheVariants.{Found, Absent, Wrong}
use Rattle.perfect_hash.specs.Numbers.{number_by}
use Rattle.hash_block.specs.Parts.{HasLengths, HashParts, IsHash}
use Rattle.hash_block.specs.Bytes.{stored_from, AreZeroBytesFrom, StandsAt}
use Rattle.hash_block.specs.Given.{given, len_of, StandsAtNumber}
use Rattle.hash_block.specs.Kinds.{hash_by, IsStringKind}
use Rattle.hash_block.specs.SipHash.{hash_of}

-- the kind of block, a hash, where the string of each number begins and the last one ends, and the words of the bytes
pub record StringParts : Type 0 where
  pub kind : ℕ
  pub hash : HashParts
  pub starts : List ℕ
  pub bytes : List ℕ

-- the kind is one of strings, the hash has the right lengths, and there is a start for each number and one more: they may
-- hold anything
pub record HasStringStarts (parts : StringParts) : Type 0 where
  pub kind : IsStringKind parts.kind
  pub lengths : HasLengths parts.hash
  pub count : length parts.starts ≡ parts.hash.keys + 1
  pub short : length parts.bytes < 2 ^ 58

-- the number of a string by a hash of what `hash_of` gives
abbrev pub string_number : HashParts → (ℕ → ℕ) → ℕ → Option ℕ
string_number hash string len = number_by hash.sizes (bits_in hash.lists) (hash_of hash.seed string len)

-- that of a string in a block, by the hash of its kind
abbrev pub string_number_in : StringParts → (ℕ → ℕ) → ℕ → Option ℕ
string_number_in parts string len =
    number_by parts.hash.sizes (bits_in parts.hash.lists) (hash_by parts.kind parts.hash.seed string len)

-- that of string i of those that are given
abbrev pub given_number : HashParts → List ℕ → List ℕ → ℕ → Option ℕ
given_number hash bytes ends i = string_number hash (given bytes ends i) (len_of ends i)

-- where the string of a number begins and ends
abbrev pub start_of : StringParts → ℕ → ℕ
start_of parts v = slice_index parts.starts v

-- the string of a number stands in the words
abbrev pub IsStringInside : StringParts → ℕ → Type 0
IsStringInside parts v = (start_of parts v ≤ start_of parts (v + 1)) × (start_of parts (v + 1) ≤ 8 * length parts.bytes)

-- a string of `len` bytes is that of number v
pub record IsString (parts : StringParts) (v : ℕ) (string : ℕ → ℕ) (len : ℕ) : Type 0 where
  pub below : v < parts.hash.keys
  pub inside : start_of parts (v + 1) ≤ 8 * length parts.bytes
  pub len_is : start_of parts v + len ≡ start_of parts (v + 1)
  pub same : StandsAt parts.bytes (start_of parts v) string len

-- the string of number v ends where it begins or later, and not after the last one; by the hash it has that number
pub record IsOwn (parts : StringParts) (v : ℕ) : Type 0 where
  pub rise : start_of parts v ≤ start_of parts (v + 1)
  pub within : start_of parts (v + 1) ≤ start_of parts parts.hash.keys
  pub own : string_number_in parts (stored_from parts.bytes (start_of parts v)) (start_of parts (v + 1) - start_of parts v) ≡ Some v

-- the words are as many as the bytes take, and the bytes after the last string are 0
pub record IsFull (parts : StringParts) : Type 0 where
  pub tight : length parts.bytes ≡ div_ceil (start_of parts parts.hash.keys) 8
  pub padding : AreZeroBytesFrom parts.bytes (start_of parts parts.hash.keys)

-- the parts of the hash are those of one, by which each string has its number; strings stand one after another
pub record AreStrings (parts : StringParts) : Type 0 where
  pub hash : IsHash parts.hash
  pub first : start_of parts 0 ≡ 0
  pub full : IsFull parts
  pub each : (v : ℕ) → v < parts.hash.keys → IsOwn parts v

-- the string of the number that is found is this one
abbrev pub IsStringHeld : StringParts → (ℕ → ℕ) → ℕ → Answer ℕ → Type 0
IsStringHeld parts string len (Found v) = IsString parts v string len
IsStringHeld parts string len Absent = ⊤
IsStringHeld parts string len Wrong = ⊤

-- and it is Absent exactly where it is none of the strings
abbrev pub IsStringFound : StringParts → (ℕ → ℕ) → ℕ → Answer ℕ → Type 0
IsStringFound parts string len = Right (λ v. IsString parts v string len) ((v : ℕ) → IsString parts v string len → ⊥)

-- a number, where its string is this one; else Absent
abbrev pub IsNumberKept : StringParts → (ℕ → ℕ) → ℕ → Answer ℕ → Answer ℕ → Type 0
IsNumberKept parts string len (Found v) (Found w) = (v ≡ w) × IsString parts v string len
IsNumberKept parts string len (Found v) Absent = ¬ (IsString parts v string len)
IsNumberKept parts string len (Found v) Wrong = ⊥
IsNumberKept parts string len Absent answer = answer ≡ Absent
IsNumberKept parts string len Wrong answer = answer ≡ Wrong

-- where the string of number v begins and how many bytes it has, which stand in the words; Absent exactly where there is
-- no such number
abbrev pub IsPiece : StringParts → ℕ → Answer (ℕ × ℕ) → Type 0
IsPiece parts v (Found piece) =
    (v < parts.hash.keys) × (piece.0 ≡ start_of parts v) × (piece.0 + piece.1 ≡ start_of parts (v + 1))
    × (piece.0 + piece.1 ≤ 8 * length parts.bytes)
IsPiece parts v Absent = parts.hash.keys ≤ v
IsPiece parts v Wrong = (v < parts.hash.keys) × (¬ (IsStringInside parts v))

-- the answer is not that the memory is wrong
abbrev pub IsNotWrong : Answer (ℕ × ℕ) → Type 0
IsNotWrong = Right (λ _. ⊤) ⊤

-- each of the strings that are given stands at its number, and nothing else does; zeros stand after them
pub record AreStored (number : ℕ → Option ℕ) (bytes ends starts words : List ℕ) : Type 0 where
  pub first : slice_index starts 0 ≡ 0
  pub each : (v : ℕ) → v < length ends
      → (i : ℕ) × (i < length ends) × (number i ≡ Some v) × StandsAtNumber bytes ends starts words i v
  pub last : slice_index starts (length ends) ≡ length bytes
  pub padding : AreZeroBytesFrom words (length bytes)
