-- A block that holds a minimal perfect hash.
use Rattle.std.specs.Prelude.{◌≡◌, ℕ, ◌^◌, ◌<◌, ◌≤◌, Bool, List, [], ◌∷◌, length, slice_index}
use Rattle.std.specs.Int.{div_ceil}
use Rattle.bit_lists.specs.Bits.{bits_of}
use Rattle.bitm_tables.specs.Tables.{bits_in, HasSizes, HasTables}
use Rattle.bitm_block.specs.Header.{section_in, IsBlock, IsOfKind, IsVerified}
use Rattle.bitm_block.specs.Layout.{end_of, part_in}
use Rattle.bitm_block.specs.declared.head.Head.{Head}
use Rattle.bitm_block.specs.declared.layout.Section.{Section}
use Rattle.tables_view.specs.Sizes.{lists_of}
use Rattle.block_tables.specs.Sections.{section_of, tables_in}
use Rattle.perfect_hash.specs.Numbers.{AreSizes}
use Rattle.hash_block.specs.Parts.{HasLengths, HashParts, IsHash}

-- the numbers of the header of a hash of n keys
abbrev pub hash_head : ℕ → ℕ → Head
hash_head n seed = record { kind = 5; len = n; width = 0; ones_log2 = 0; zeros_log2 = 0; a = seed; b = 0; c = 0 }

-- the sections of levels with that many words: the words, their tables, and the size of each level
abbrev pub hash_sections : ℕ → ℕ → List Section
hash_sections words levels =
    section_of 1 words ∷ section_of 2 (div_ceil words (2 ^ 26)) ∷ section_of 3 (div_ceil words 32) ∷ section_of 4 levels ∷ []

-- few enough words and levels for a hash
pub record AreFew (words levels : ℕ) : Type 0 where
  pub short : words < 2 ^ 58
  pub few : levels ≤ 256

-- these words and tables, and these sizes, stand where the sections are
pub record AreParts (words sizes upper lower found : List ℕ) : Type 0 where
  pub sized : HasSizes (lists_of words upper lower)
  pub tables : HasTables (lists_of words upper lower)
  pub sizes_are : found ≡ sizes

pub record StandsIn (words sizes block : List ℕ) : Type 0 where
  pub words_are : part_in (hash_sections (length words) (length sizes)) block 0 ≡ words
  pub parts : let ss = hash_sections (length words) (length sizes) in
      AreParts words sizes (part_in ss block 1) (part_in ss block 2) (part_in ss block 3)

-- the hash whose parts are the first four sections
abbrev pub hash_in : List ℕ → HashParts
hash_in block = record {
  lists = tables_in block;
  sizes = section_in block 3;
  keys = slice_index block 3;
  seed = slice_index block 8;
}

-- the block is of the kind of a hash, and its first four sections are words, two tables and sizes
abbrev pub HasHashSections : List ℕ → Type 0
HasHashSections block = IsOfKind 5 (1 ∷ 2 ∷ 3 ∷ 4 ∷ []) block

-- header and directory are those of a hash, and the sections are as long as they have to be: nothing is said of what
-- they hold
pub record IsHashBlock (block : List ℕ) : Type 0 where
  pub is_block : IsBlock block
  pub sections : HasHashSections block
  pub lengths : HasLengths (hash_in block)

-- and the sections are as they were written, and hold a hash
pub record IsSoundBlock (block : List ℕ) : Type 0 where
  pub hash_block : IsHashBlock block
  pub verified : IsVerified block
  pub hash : IsHash (hash_in block)

-- the block is that of levels of these sizes and bits, with the seed that the caller gave
pub record IsBlockOf (sizes : List ℕ) (b : List Bool) (seed : ℕ) (block : List ℕ) : Type 0 where
  pub sound : IsSoundBlock block
  pub sizes_are : (hash_in block).sizes ≡ sizes
  pub bits : bits_in (tables_in block) ≡ b
  pub seed_is : (hash_in block).seed ≡ seed

-- words of levels, few enough, and a block as long as theirs
pub record CanHold (words sizes block : List ℕ) : Type 0 where
  pub short : length words < 2 ^ 58
  pub levels : AreSizes sizes (bits_of words)
  pub room : length block ≡ end_of (hash_sections (length words) (length sizes))
