-- What a failure says of itself.
use Rattle.std.specs.Prelude.{ℕ, List, codes}
use Rattle.program_base.specs.Failure.{cannot_write_text, no_memory_text}
use Rattle.program_files.specs.declared.strings.failure.Failure.{Failure}
use Rattle.program_files.specs.declared.strings.failure.Failure.TheVariants.{EqualLines, TooLarge, WrongBlock, NoMemory, CannotWrite}

-- the characters of its text
abbrev pub failure_text : Failure → List ℕ
failure_text EqualLines = codes "two lines are equal, or have one hash"
failure_text TooLarge = codes "the lines are too many for a block"
failure_text WrongBlock = codes "not a block of strings, or not as it was written"
failure_text NoMemory = no_memory_text
failure_text CannotWrite = cannot_write_text
