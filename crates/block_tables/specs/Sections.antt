-- Words with their two tables as the first three sections of a block.
use Rattle.std.specs.Prelude.{ℕ, ◌^◌, List, [], ◌∷◌}
use Rattle.std.specs.Int.{div_ceil}
use Rattle.bitm_block.specs.Header.{section_in, IsOfKind}
use Rattle.bitm_block.specs.declared.layout.Section.{Section}
use Rattle.bitm_tables.specs.Tables.{Lists}
use Rattle.tables_view.specs.Sizes.{lists_of}

-- a section of a role and a number of items
abbrev pub section_of : ℕ → ℕ → Section
section_of role count = record { role = role; count = count }

-- the sections of the given number of words: these, their upper and their lower table
abbrev pub table_sections : ℕ → List Section
table_sections words = section_of 1 words ∷ section_of 2 (div_ceil words (2 ^ 26)) ∷ section_of 3 (div_ceil words 32) ∷ []

-- the words and the tables that the first three sections are
abbrev pub tables_in : List ℕ → Lists
tables_in block = lists_of (section_in block 0) (section_in block 1) (section_in block 2)

-- the block is of a kind, and its first three sections are words, an upper and a lower table
abbrev pub HasTableSections : ℕ → List ℕ → Type 0
HasTableSections kind block = IsOfKind kind (1 ∷ 2 ∷ 3 ∷ []) block
