-- The block of the lines of a text.
use Rattle.std.specs.Prelude.{⊤, ℕ, List, Option}
use Rattle.std.specs.Io.KnownBytes.{Appends}
use Rattle.program_files.specs.Bytes.{bytes_of}
use Rattle.program_base.specs.Text.{lines_of}
use Rattle.program_files.specs.StringsLines.{ends_of, joined_lines}
use Rattle.program_files.specs.declared.strings.failure.Failure.{Failure}
use Rattle.program_files.specs.declared.strings.failure.Failure.TheVariants.{EqualLines, TooLarge, WrongBlock, NoMemory, CannotWrite}
use Rattle.hash_block.specs.StringsBlock.{IsBlockOf}

-- the block is that of these strings, each with some number of its own
pub record IsStringsOf (bytes ends block : List ℕ) : Type 0 where
  pub number : (ℕ → ℕ) → ℕ → Option ℕ
  pub block_of : IsBlockOf number bytes ends block

-- the bytes of the block of the lines of a text were written: the writer's bytes, where the writer shows them, went from
-- before to after by just them
pub record WroteStrings (text : List ℕ) (before after : Option (List ℕ)) : Type 0 where
  pub block : List ℕ
  pub block_of : IsStringsOf (joined_lines (lines_of text)) (ends_of (lines_of text)) block
  pub written : Appends before after (bytes_of block)

-- it may be why strings have no block
abbrev pub IsBuildFailure : Failure → Type 0
IsBuildFailure EqualLines = ⊤
IsBuildFailure TooLarge = ⊤
IsBuildFailure WrongBlock = ⊥
IsBuildFailure NoMemory = ⊤
IsBuildFailure CannotWrite = ⊥
