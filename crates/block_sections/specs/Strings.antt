-- The block of strings that is extended by a section is that of the same strings.
use Rattle.std.specs.Prelude.{◌≡◌, ℕ, List, Option}
use Rattle.bitm_block.specs.declared.layout.Section.{Section}
use Rattle.block_sections.specs.Extended.{IsExtended}
use Rattle.hash_block.specs.StringsBlock.{strings_in, IsBlockOf, IsSoundBlock, IsStringBlock}

-- the new block is opened and checked as the old one, of the same parts, and is the block of the same strings
pub record KeepsString (block new : List ℕ) : Type 0 where
  pub opened : IsStringBlock block → IsStringBlock new
  pub parts : IsStringBlock block → strings_in new ≡ strings_in block
  pub sound : IsSoundBlock block → IsSoundBlock new
  pub strings : (number : (ℕ → ℕ) → ℕ → Option ℕ) (bytes ends : List ℕ) → IsBlockOf number bytes ends block
      → IsBlockOf number bytes ends new

abbrev pub KeepsStrings : Type 0
KeepsStrings = (block : List ℕ) (added : Section) (words new : List ℕ) → IsExtended block added words new → KeepsString block new
