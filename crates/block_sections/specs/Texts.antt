-- The block of the index of a text that is extended by a section is that of the same text.
use Rattle.std.specs.Prelude.{◌≡◌, ℕ, List}
use Rattle.bitm_block.specs.declared.layout.Section.{Section}
use Rattle.block_sections.specs.Extended.{IsExtended}
use Rattle.text_block.specs.Block.{parts_in, IsSoundBlock, IsTextBlock}
use Rattle.text_block.specs.Made.{IsByteBlock, IsMadeBlock}

-- the new block is opened and checked as the old one, of the same parts, and is the block of the same text, of letters
-- or of bytes
pub record KeepsText (block new : List ℕ) : Type 0 where
  pub opened : IsTextBlock block → IsTextBlock new
  pub parts : IsTextBlock block → parts_in new ≡ parts_in block
  pub sound : IsSoundBlock block → IsSoundBlock new
  pub letters : (text : List ℕ) (letters width step : ℕ) (used : List ℕ) → IsMadeBlock text letters width step used block
      → IsMadeBlock text letters width step used new
  pub bytes : (text : List ℕ) (step : ℕ) → IsByteBlock text step block → IsByteBlock text step new

abbrev pub KeepsTexts : Type 0
KeepsTexts = (block : List ℕ) (added : Section) (words new : List ℕ) → IsExtended block added words new → KeepsText block new
