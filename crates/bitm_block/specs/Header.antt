-- What the header and directory of a block say, and which blocks are right.
use Rattle.std.specs.Prelude.{◌≡◌, ◌≢◌, ℕ, ◌+◌, ◌*◌, ◌/◌, ◌%◌, ◌^◌, ◌<◌, ◌≤◌, All, List, map, length, slice_index, slice_range}
use Rattle.std.specs.List.{range_with_len}
use Rattle.bitm_block.specs.Checksum.{checksum_in}
use Rattle.bitm_block.specs.Layout.{begin_of, end_of, head_of, words_of}
use Rattle.bitm_block.specs.declared.error.OpenError.{OpenError}
use Rattle.bitm_block.specs.declared.error.OpenError.TheVariants.{TooShort, NotABlock, OtherVersion, WrongHeader, UnknownFeature, WrongLength, WrongDirectory}
use Rattle.bitm_block.specs.declared.head.Head.{Head}
use Rattle.bitm_block.specs.declared.layout.Section.{Section}

-- the numbers of the header
abbrev pub head_in : List ℕ → Head
head_in block = record {
  kind = slice_index block 1;
  len = slice_index block 3;
  width = slice_index block 4;
  ones_log2 = slice_index block 5;
  zeros_log2 = slice_index block 6;
  a = slice_index block 8;
  b = slice_index block 9;
  c = slice_index block 10;
}

-- how many sections the directory has
abbrev pub count_in : List ℕ → ℕ
count_in block = slice_index block 11

-- section i, as the directory has it
abbrev pub section_entry : List ℕ → ℕ → Section
section_entry block i = record { role = slice_index block (16 + 4 * i); count = slice_index block (16 + 4 * i + 2) }

-- the sections, as the directory has them
unfoldable pub sections_in : List ℕ → List Section
sections_in block = map (section_entry block) (range_with_len 0 (count_in block))

-- where section i begins and where its items end
abbrev pub begin_in : List ℕ → ℕ → ℕ
begin_in block i = begin_of (sections_in block) i

abbrev pub finish_in : List ℕ → ℕ → ℕ
finish_in block i = begin_in block i + words_of (section_entry block i)

-- the words of section i
abbrev pub section_in : List ℕ → ℕ → List ℕ
section_in block i = slice_range block (begin_in block i) (finish_in block i)

-- the seven letters `bitmtab`
abbrev pub HasLetters : List ℕ → Type 0
HasLetters words = slice_index words 0 % 2 ^ 56 ≡ 0x62_6174_6d74_6962

-- the version of the format
abbrev pub version_in : List ℕ → ℕ
version_in words = slice_index words 0 / 2 ^ 56

-- versions 3 and 4 are read; version 4 is written
abbrev pub IsKnown : ℕ → Type 0
IsKnown version = (3 ≤ version) × (version ≤ 4)

-- the checksum of words in a block, which the version of the block determines
abbrev pub sum_in : List ℕ → List ℕ → ℕ
sum_in block words = checksum_in (version_in block) words

-- the words are as many as a header has, and begin as those of a version that is read
pub record IsMarked (words : List ℕ) : Type 0 where
  pub long : 16 ≤ length words
  pub letters : HasLetters words
  pub version : IsKnown (version_in words)

-- the words begin with a header that is as it was written
pub record IsSummed (words : List ℕ) : Type 0 where
  pub marked : IsMarked words
  pub checksum : slice_index words 15 ≡ sum_in words (slice_range words 0 15)

-- and it has no feature that this version does not have
pub record IsHeader (words : List ℕ) : Type 0 where
  pub summed : IsSummed words
  pub needs : slice_index words 7 ≡ 0
  pub spare : slice_index words 12 ≡ 0
  pub free : slice_index words 13 ≡ 0

-- the entry of section i says where it begins, and is not too long
pub record IsEntry (block : List ℕ) (i : ℕ) : Type 0 where
  pub at : slice_index block (16 + 4 * i + 1) ≡ 8 * begin_in block i
  pub count : slice_index block (16 + 4 * i + 2) < 2 ^ 58

-- the directory has at most 16 entries, which are as they were written, with zeros up to the first section; sections
-- stand one after another up to the end of the block
pub record IsDirectory (block : List ℕ) : Type 0 where
  pub few : count_in block ≤ 16
  pub head : head_of (count_in block) ≤ length block
  pub checksum : slice_index block 14 ≡ sum_in block (slice_range block 16 (head_of (count_in block)))
  pub padding : All (λ w. w ≡ 0) (slice_range block (16 + 4 * count_in block) (head_of (count_in block)))
  pub entries : (i : ℕ) → i < count_in block → IsEntry block i
  pub whole : length block ≡ end_of (sections_in block)

-- the words are a block whose header and directory are right
pub record IsBlock (block : List ℕ) : Type 0 where
  pub header : IsHeader block
  pub size : slice_index block 2 ≡ 8 * length block
  pub directory : IsDirectory block

-- why words are no block: the first of these that holds
abbrev pub IsReason : List ℕ → OpenError → Type 0
IsReason words TooShort = length words < 16
IsReason words NotABlock = (16 ≤ length words) × (¬ (HasLetters words))
IsReason words OtherVersion = (16 ≤ length words) × HasLetters words × (¬ (IsKnown (version_in words)))
IsReason words WrongHeader = IsMarked words × (slice_index words 15 ≢ sum_in words (slice_range words 0 15))
IsReason words UnknownFeature = IsSummed words × (¬ (IsHeader words))
IsReason words WrongLength = IsHeader words × (slice_index words 2 ≢ 8 * length words)
IsReason words WrongDirectory = IsHeader words × (slice_index words 2 ≡ 8 * length words) × (¬ (IsDirectory words))

-- the sum of section i is that of its words, and zeros stand after them up to the next section
pub record IsKept (block : List ℕ) (i : ℕ) : Type 0 where
  pub checksum : slice_index block (16 + 4 * i + 3) ≡ sum_in block (section_in block i)
  pub padding : All (λ w. w ≡ 0) (slice_range block (finish_in block i) (begin_in block (i + 1)))

-- all sections are as they were written
abbrev pub IsVerified : List ℕ → Type 0
IsVerified block = (i : ℕ) → i < count_in block → IsKept block i

-- the block is of a kind, and its first sections have these roles
pub record IsOfKind (kind : ℕ) (roles : List ℕ) (block : List ℕ) : Type 0 where
  pub kind_is : slice_index block 1 ≡ kind
  pub many : length roles ≤ count_in block
  pub roles_are : (i : ℕ) → i < length roles → (section_entry block i).role ≡ slice_index roles i
