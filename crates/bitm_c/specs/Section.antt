-- A section of a block as C gets it.
use Rattle.std.specs.Prelude.{◌≡◌, ℕ, List}
use Rattle.bitm_block.specs.Header.{section_entry, section_in}
use Rattle.block_tables.specs.Sections.{section_of}
use Rattle.bitm_c.specs.declared.sections.Section.{Section}

-- it has the role, the number of items and the words of section i of the block
pub record IsSectionAt (block : List ℕ) (i : ℕ) (section : Section) : Type 0 where
  pub entry : section_of section.role section.count ≡ section_entry block i
  pub words : section.words.now ≡ section_in block i
