-- A block that holds a dictionary of numbers: a minimal perfect hash, and each key at its number.
use Rattle.std.specs.Prelude.{◌≡◌, ◌≢◌, ◌==◌, if◌then◌else◌, ⊤, ℕ, ◌+◌, ◌%◌, ◌^◌, ◌<◌, ◌≤◌, List, [], ◌∷◌, length, slice_get, slice_index, Option, Some}
use Rattle.std.specs.Int.{div_ceil}
use Rattle.bitm_tables.specs.Answers.{Right}
use Rattle.bitm_tables.specs.declared.answer.Answer.{Answer}
use Rattle.bitm_tables.specs.declared.answer.Answer.TheVariants.{Found, Absent, Wrong}
use Rattle.bit_lists.specs.Bits.{bits_of}
use Rattle.bitm_tables.specs.Tables.{bits_in}
use Rattle.bitm_block.specs.Header.{count_in, section_in, IsVerified}
use Rattle.bitm_block.specs.Layout.{end_of, part_in}
use Rattle.bitm_block.specs.declared.layout.Section.{Section}
use Rattle.block_tables.specs.Sections.{section_of}
use Rattle.perfect_hash.specs.Numbers.{number_by, AreSizes}
use Rattle.hash_block.specs.Block.{hash_in, AreFew, AreParts, IsHashBlock}
use Rattle.hash_block.specs.declared.hashing.Added.{Added}
use Rattle.hash_block.specs.Parts.{HasLengths, HashParts, IsHash}

-- the hash of a number by a seed: their sum
abbrev pub added : ℕ → ℕ → ℕ
added seed key = (key + seed) % 2 ^ 64

-- the same by a hasher
abbrev pub hashed : Added → ℕ → ℕ
hashed by key = added by.seed key

-- the number of a key by a hash
abbrev pub number_of_key : HashParts → ℕ → Option ℕ
number_of_key hash key = number_by hash.sizes (bits_in hash.lists) (added hash.seed key)

-- a hash, and the keys in the order of their numbers
pub record DictionaryParts : Type 0 where
  pub hash : HashParts
  pub keys : List ℕ

-- the hash has the right lengths, and there are as many keys as it announces: they may hold anything
pub record HasKeys (parts : DictionaryParts) : Type 0 where
  pub lengths : HasLengths parts.hash
  pub len : length parts.keys ≡ parts.hash.keys

-- the parts of the hash are those of one, by which each key stands at its number
pub record IsDictionaryIn (parts : DictionaryParts) : Type 0 where
  pub hash : IsHash parts.hash
  pub own : (i : ℕ) → i < length parts.keys → number_of_key parts.hash (slice_index parts.keys i) ≡ Some i

-- the key stands at the number that is found
abbrev pub IsKeyHeld : List ℕ → ℕ → Answer ℕ → Type 0
IsKeyHeld keys key (Found n) = (n < length keys) × (slice_index keys n ≡ key)
IsKeyHeld keys key Absent = ⊤
IsKeyHeld keys key Wrong = ⊤

-- the number that is found, where the key stands there; else the key is absent
abbrev pub kept : List ℕ → ℕ → Answer ℕ → Answer ℕ
kept keys key (Found n) = if slice_index keys n == key then Found n else Absent
kept keys key Absent = Absent
kept keys key Wrong = Wrong

-- and it is Absent exactly where it is none of the keys
abbrev pub IsKeyFound : List ℕ → ℕ → Answer ℕ → Type 0
IsKeyFound keys key =
    Right (λ n. (n < length keys) × (slice_index keys n ≡ key)) ((i : ℕ) → i < length keys → slice_index keys i ≢ key)

-- the sections of a dictionary: those of its hash, and the keys
abbrev pub dictionary_sections : ℕ → ℕ → ℕ → List Section
dictionary_sections words levels keys =
    section_of 1 words ∷ section_of 2 (div_ceil words (2 ^ 26)) ∷ section_of 3 (div_ceil words 32) ∷ section_of 4 levels ∷ section_of 5 keys
    ∷ []

-- few enough words, levels and keys
pub record AreFewKeys (words levels keys : ℕ) : Type 0 where
  pub hash : AreFew words levels
  pub few_keys : keys < 2 ^ 58

-- the dictionary whose parts are the first five sections
abbrev pub dictionary_in : List ℕ → DictionaryParts
dictionary_in block = record { hash = hash_in block; keys = section_in block 4 }

-- header and directory are those of a hash, and a fifth section has as many keys as the header says: nothing is said of
-- what the sections hold
pub record IsDictionaryBlock (block : List ℕ) : Type 0 where
  pub hash_block : IsHashBlock block
  pub five : 5 ≤ count_in block
  pub role : slice_index block 32 ≡ 5
  pub len : length (section_in block 4) ≡ slice_index block 3

-- and the sections are as they were written, and hold a dictionary
pub record IsSoundDictionary (block : List ℕ) : Type 0 where
  pub dictionary_block : IsDictionaryBlock block
  pub verified : IsVerified block
  pub dictionary : IsDictionaryIn (dictionary_in block)

-- each of the keys stands at the number that a hash gives it
abbrev pub StandAtNumbers : (ℕ → Option ℕ) → List ℕ → List ℕ → Type 0
StandAtNumbers number keys stored = (i v key : ℕ) → slice_get keys i ≡ Some key → number key ≡ Some v → slice_index stored v ≡ key

-- and nothing but keys stands there
abbrev pub AreKeys : List ℕ → List ℕ → Type 0
AreKeys keys stored = (v : ℕ) → v < length stored → (i : ℕ) × (slice_get keys i ≡ Some (slice_index stored v))

-- the block is the dictionary of these keys, by a hash that gives them these numbers
pub record IsDictionaryOf (number : ℕ → Option ℕ) (keys block : List ℕ) : Type 0 where
  pub sound : IsSoundDictionary block
  pub numbers : (key : ℕ) → number_of_key (hash_in block) key ≡ number key
  pub all : StandAtNumbers number keys (dictionary_in block).keys
  pub only : AreKeys keys (dictionary_in block).keys
  pub len : length (dictionary_in block).keys ≡ length keys

-- these words, tables and sizes stand where the sections are, and the keys at their numbers
pub record KeysStandIn (words sizes : List ℕ) (number : ℕ → Option ℕ) (keys block : List ℕ) : Type 0 where
  pub words_are : part_in (dictionary_sections (length words) (length sizes) (length keys)) block 0 ≡ words
  pub parts : let ss = dictionary_sections (length words) (length sizes) (length keys) in
      AreParts words sizes (part_in ss block 1) (part_in ss block 2) (part_in ss block 3)
  pub all : StandAtNumbers number keys (part_in (dictionary_sections (length words) (length sizes) (length keys)) block 4)
  pub len : length (part_in (dictionary_sections (length words) (length sizes) (length keys)) block 4) ≡ length keys

-- words of levels, few enough, and a block as long as theirs with the given number of keys
pub record CanHoldKeys (words sizes : List ℕ) (keys : ℕ) (block : List ℕ) : Type 0 where
  pub short : length words < 2 ^ 58
  pub few : keys < 2 ^ 58
  pub levels : AreSizes sizes (bits_of words)
  pub room : length block ≡ end_of (dictionary_sections (length words) (length sizes) keys)
