-- The block of sparse bits that is extended by a section is that of the same bits, where the section is not taken for hints.
use Rattle.std.specs.Prelude.{◌≡◌, ℕ, List}
use Rattle.bitm_block.specs.declared.layout.Section.{Section}
use Rattle.block_sections.specs.Extended.{IsExtended}
use Rattle.block_sections.specs.Kept.{AddsNoHints}
use Rattle.sequence_block.specs.SparseBlock.{sparse_in, IsBlockOf, IsSoundBlock, IsSparseBlock}

-- the new block is opened and checked as the old one, of the same parts, and is the block of the same bits
pub record KeepsSparse (block new : List ℕ) : Type 0 where
  pub opened : IsSparseBlock block → IsSparseBlock new
  pub parts : IsSparseBlock block → sparse_in new ≡ sparse_in block
  pub sound : IsSoundBlock block → IsSoundBlock new
  pub bits : (xs : List ℕ) (n : ℕ) → IsBlockOf xs n block → IsBlockOf xs n new

abbrev pub KeepsSparseBits : Type 0
KeepsSparseBits =
    (block : List ℕ) (added : Section) (words new : List ℕ) → AddsNoHints 4 block added → IsExtended block added words new → KeepsSparse block new
