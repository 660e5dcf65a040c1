-- The file of a text.
use Rattle.std.specs.Prelude.{ℕ, List, Option}
use Rattle.std.specs.Io.KnownBytes.{Appends}
use Rattle.program_files.specs.Bytes.{bytes_of}
use Rattle.text_block.specs.Made.{IsByteBlock}

-- the block is that of an index of this text of bytes, with a sample each 32 letters
abbrev pub IsTextBlockOf : List ℕ → List ℕ → Type 0
IsTextBlockOf text block = IsByteBlock text 32 block

-- the bytes of such a block were written: the writer's bytes, where the writer shows them, went from before to after by
-- just them
pub record WroteText (text : List ℕ) (before after : Option (List ℕ)) : Type 0 where
  pub block : List ℕ
  pub block_of : IsTextBlockOf text block
  pub written : Appends before after (bytes_of block)
