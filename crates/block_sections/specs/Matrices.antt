-- The block of a matrix that is extended by a section is that of the same matrix.
use Rattle.std.specs.Prelude.{◌≡◌, ◌≢◌, ℕ, ◌≤◌, ◌⊎◌, List}
use Rattle.bitm_block.specs.Header.{count_in}
use Rattle.bitm_block.specs.declared.layout.Section.{Section}
use Rattle.block_sections.specs.Extended.{IsExtended}
use Rattle.block_sections.specs.Kept.{AddsNoHints}
use Rattle.matrix_block.specs.Block.{hints_index, matrix_in, IsBlockOf, IsMatrixBlock, IsSoundBlock}

-- the section is not taken for quarters: the block has a sixth section already, or the section has another role
abbrev pub AddsNoQuarters : List ℕ → Section → Type 0
AddsNoQuarters block added = (6 ≤ count_in block) ⊎ (added.role ≢ 6)

-- the new block is opened and checked as the old one, of the same parts, and is the block of the same numbers
pub record KeepsMatrix (block new : List ℕ) : Type 0 where
  pub opened : IsMatrixBlock block → IsMatrixBlock new
  pub parts : IsMatrixBlock block → matrix_in new ≡ matrix_in block
  pub sound : IsSoundBlock block → IsSoundBlock new
  pub numbers : (xs : List ℕ) (w : ℕ) → IsBlockOf xs w block → IsBlockOf xs w new

-- the section is not taken for hints either, which stand after the quarters or, without these, after five sections
abbrev pub KeepsMatrices : Type 0
KeepsMatrices =
    (block : List ℕ) (added : Section) (words new : List ℕ) → AddsNoQuarters block added → AddsNoHints (hints_index block) block added
    → IsExtended block added words new → KeepsMatrix block new
