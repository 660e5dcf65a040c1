-- A block that holds strings: the block of their hash, where each begins, and their bytes.
use Rattle.std.specs.Prelude.{◌≡◌, ◌≢◌, ℕ, ◌+◌, ◌^◌, ◌<◌, ◌≤◌, List, [], ◌∷◌, length, slice_index, Option, Some}
use Rattle.std.specs.Int.{div_ceil}
use Rattle.bitm_tables.specs.Tables.{bits_in}
use Rattle.bitm_tables.specs.declared.answer.Answer.{Answer}
use Rattle.bitm_tables.specs.declared.answer.Answer.TheVariants.{Found}
use Rattle.bitm_block.specs.Header.{count_in, section_in, IsBlock, IsVerified}
use Rattle.bitm_block.specs.Layout.{end_of, part_in}
use Rattle.bitm_block.specs.declared.head.Head.{Head}
use Rattle.bitm_block.specs.declared.layout.Section.{Section}
use Rattle.block_tables.specs.Sections.{section_of}
use Rattle.hash_block.specs.Block.{hash_in, hash_sections, IsHashBlock, IsBlockOf as IsHashOf}
use Rattle.hash_block.specs.Parts.{HashParts, IsHash}
use Rattle.hash_block.specs.Given.{given, len_of, AreGiven, HaveNumbers}
use Rattle.hash_block.specs.Kinds.{IsStringKind}
use Rattle.hash_block.specs.StringsParts.{given_number, string_number_in, AreStored, AreStrings, HasStringStarts, IsString, IsStringFound, StringParts}
use Rattle.hash_block.specs.declared.strings.error.BuildError.{BuildError}
use Rattle.hash_block.specs.declared.strings.error.BuildError.TheVariants.{TooLong, NotGiven, WrongLength, NotNumbered}

-- the numbers of the header of n strings
abbrev pub string_head : ℕ → Head
string_head n = record { kind = 12; len = n; width = 0; ones_log2 = 0; zeros_log2 = 0; a = 0; b = 0; c = 0 }

-- how many words the block of the hash has
abbrev pub hash_len : ℕ → ℕ → ℕ
hash_len words levels = end_of (hash_sections words levels)

-- the sections of n strings: the block of their hash, a start for each and the end, and the words of the bytes
abbrev pub string_sections : ℕ → ℕ → ℕ → List Section
string_sections hash n bytes = section_of 21 hash ∷ section_of 19 (n + 1) ∷ section_of 20 (div_ceil bytes 8) ∷ []

-- those of n strings, whose hash has that many words of levels
abbrev pub sections_of : ℕ → ℕ → ℕ → ℕ → List Section
sections_of words levels n bytes = string_sections (hash_len words levels) n bytes

-- few enough words, levels, strings and bytes
pub record AreFewStrings (words levels n bytes : ℕ) : Type 0 where
  pub words_few : words < 2 ^ 57
  pub levels_few : levels ≤ 256
  pub strings_few : n < 2 ^ 57
  pub bytes_few : bytes < 2 ^ 60

-- the strings of this kind whose parts are the first three sections
abbrev pub strings_in : List ℕ → StringParts
strings_in block = record {
  kind = slice_index block 1;
  hash = hash_in (section_in block 0);
  starts = section_in block 1;
  bytes = section_in block 2;
}

-- the block is of a kind of strings, and its first three sections are those
pub record HasStringSections (block : List ℕ) : Type 0 where
  pub kind : IsStringKind (slice_index block 1)
  pub three : 3 ≤ count_in block
  pub hash : slice_index block 16 ≡ 21
  pub starts : slice_index block 20 ≡ 19
  pub bytes : slice_index block 24 ≡ 20

-- header and directory are those of strings, the first section is the block of a hash of as many keys as the header says,
-- and there are as many starts: nothing is said of what the sections hold
pub record IsStringBlock (block : List ℕ) : Type 0 where
  pub is_block : IsBlock block
  pub sections : HasStringSections block
  pub hash_block : IsHashBlock (section_in block 0)
  pub starts : HasStringStarts (strings_in block)
  pub len : slice_index block 3 ≡ (strings_in block).hash.keys

-- and the sections are as they were written, and hold strings
pub record IsSoundBlock (block : List ℕ) : Type 0 where
  pub string_block : IsStringBlock block
  pub verified : IsVerified block
  pub strings : AreStrings (strings_in block)

-- the hash is one, and gives each of the strings a number of its own below how many there are
pub record NumberStrings (hash : HashParts) (bytes ends : List ℕ) : Type 0 where
  pub is_hash : IsHash hash
  pub keys : hash.keys ≡ length ends
  pub numbers : HaveNumbers (given_number hash bytes ends) (length ends)

-- few enough words of levels, strings and bytes
abbrev pub AreFewOf : HashParts → List ℕ → List ℕ → Type 0
AreFewOf hash bytes ends = AreFewStrings (length hash.lists.words) (length hash.sizes) (length ends) (length bytes)

-- the sections of their block, and how many words it has
abbrev pub sections_for : HashParts → List ℕ → List ℕ → List Section
sections_for hash bytes ends = sections_of (length hash.lists.words) (length hash.sizes) (length ends) (length bytes)

abbrev pub len_with : HashParts → List ℕ → List ℕ → ℕ
len_with hash bytes ends = end_of (sections_for hash bytes ends)

-- strings that are given, few enough of all, and a block as long as theirs
pub record CanHold (hash : HashParts) (bytes ends block : List ℕ) : Type 0 where
  pub few : AreFewOf hash bytes ends
  pub are_given : AreGiven bytes ends
  pub room : length block ≡ len_with hash bytes ends

-- why no block was written: the first of these that holds
abbrev pub IsReason : HashParts → List ℕ → List ℕ → List ℕ → BuildError → Type 0
IsReason hash bytes ends block TooLong = ¬ (AreFewOf hash bytes ends)
IsReason hash bytes ends block NotGiven = AreFewOf hash bytes ends × (¬ (AreGiven bytes ends))
IsReason hash bytes ends block WrongLength =
    AreFewOf hash bytes ends × AreGiven bytes ends × (length block ≢ len_with hash bytes ends)
IsReason hash bytes ends block NotNumbered = CanHold hash bytes ends block × (¬ (NumberStrings hash bytes ends))

-- the block of this hash, where each of the strings begins, and their bytes
pub record AreStringPartsOf (hash : HashParts) (bytes ends hash_block starts words : List ℕ) : Type 0 where
  pub hash_is : IsHashOf hash.sizes (bits_in hash.lists) hash.seed hash_block
  pub count : length starts ≡ length ends + 1
  pub tight : length words ≡ div_ceil (length bytes) 8
  pub stored : AreStored (given_number hash bytes ends) bytes ends starts words

-- they stand where the sections are
abbrev pub StandsIn : HashParts → List ℕ → List ℕ → List ℕ → Type 0
StandsIn hash bytes ends block =
    let ss = sections_for hash bytes ends in
    AreStringPartsOf hash bytes ends (part_in ss block 0) (part_in ss block 1) (part_in ss block 2)

-- the block is that of the given strings, by a hash that gives strings these numbers
pub record IsBlockOf (number : (ℕ → ℕ) → ℕ → Option ℕ) (bytes ends block : List ℕ) : Type 0 where
  pub sound : IsSoundBlock block
  pub numbers : (string : ℕ → ℕ) (len : ℕ) → string_number_in (strings_in block) string len ≡ number string len
  pub count : (strings_in block).hash.keys ≡ length ends
  pub all : (i v : ℕ) → i < length ends → number (given bytes ends i) (len_of ends i) ≡ Some v
      → IsString (strings_in block) v (given bytes ends i) (len_of ends i)
  pub only : (v : ℕ) → v < length ends → (i : ℕ) × (i < length ends) × (number (given bytes ends i) (len_of ends i) ≡ Some v)

-- a block of strings is sound, and of each of them the only answer that `find` may give is the number that the hash gives
-- it
abbrev pub StringsRoundTrip : Type 0
StringsRoundTrip =
    (number : (ℕ → ℕ) → ℕ → Option ℕ) (bytes ends block : List ℕ) → IsBlockOf number bytes ends block
    → IsSoundBlock block
    × ((i v : ℕ) (answer : Answer ℕ) → i < length ends → number (given bytes ends i) (len_of ends i) ≡ Some v
    → IsStringFound (strings_in block) (given bytes ends i) (len_of ends i) answer → answer ≡ Found v)
