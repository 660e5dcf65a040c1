-- A block that holds bits with the tables of their index.
use Rattle.std.specs.Prelude.{◌≡◌, ℕ, ◌-◌, ◌*◌, ◌^◌, ◌≤◌, Bool, List, length, slice_index}
use Rattle.std.specs.Int.{div_ceil}
use Rattle.bitm_block.specs.Header.{IsBlock, IsVerified}
use Rattle.bitm_block.specs.Layout.{end_of, part_in}
use Rattle.bitm_block.specs.declared.head.Head.{Head}
use Rattle.bitm_block.specs.declared.layout.Section.{Section}
use Rattle.bitm_tables.specs.Tables.{bits_in, HasSizes, HasTables, Lists}
use Rattle.bitm_view.specs.Block.{AreFirst}
use Rattle.bitm_view.specs.Cut.{cut_at, Cut}
use Rattle.tables_view.specs.Sizes.{lists_of}
use Rattle.block_tables.specs.Sections.{table_sections, tables_in, HasTableSections}

-- the numbers of the header of n bits
abbrev pub bits_head : ℕ → Head
bits_head n = record { kind = 2; len = n; width = 0; ones_log2 = 0; zeros_log2 = 0; a = 0; b = 0; c = 0 }

-- the sections of n bits
abbrev pub bits_sections : ℕ → List Section
bits_sections n = table_sections (div_ceil n 64)

-- the first n bits of the words are those of b, with 0 bits after them, and the tables are those of the words
pub record AreBits (b : List Bool) (n : ℕ) (lists : Lists) : Type 0 where
  pub words_len : length lists.words ≡ div_ceil n 64
  pub sized : HasSizes lists
  pub bits : AreFirst b n (bits_in lists)
  pub tables : HasTables lists

-- the words and tables that stand where the sections of n bits are
abbrev pub lists_at : ℕ → List ℕ → Lists
lists_at n block = lists_of (part_in (bits_sections n) block 0) (part_in (bits_sections n) block 1) (part_in (bits_sections n) block 2)

-- the bits whose words and tables are the first three sections
abbrev pub bits_in_block : List ℕ → Cut
bits_in_block block = cut_at (tables_in block) (slice_index block 3)

-- header and directory are those of bits, and the sections are as long as these need: nothing is said of what they hold
pub record IsBitsBlock (block : List ℕ) : Type 0 where
  pub is_block : IsBlock block
  pub sections : HasTableSections 2 block
  pub sized : HasSizes (tables_in block)
  pub words_len : length (tables_in block).words ≡ div_ceil (slice_index block 3) 64

-- and the sections are as they were written, with the tables of the words
pub record IsSoundBlock (block : List ℕ) : Type 0 where
  pub bits_block : IsBitsBlock block
  pub verified : IsVerified block
  pub tables : HasTables (tables_in block)

-- the block is that of the first n bits of b
pub record IsBlockOf (b : List Bool) (n : ℕ) (block : List ℕ) : Type 0 where
  pub sound : IsSoundBlock block
  pub len : slice_index block 3 ≡ n
  pub bits : AreFirst b n (bits_in (tables_in block))

-- words with n bits, few enough for an index, and a block as long as theirs
pub record CanHold (words : List ℕ) (n : ℕ) (block : List ℕ) : Type 0 where
  pub source : n ≤ 64 * length words
  pub short : n ≤ 2 ^ 64 - 64
  pub room : length block ≡ end_of (bits_sections n)
