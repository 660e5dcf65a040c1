-- What a failure says of itself.
use Rattle.std.specs.Prelude.{ℕ, List, codes}
use Rattle.program_base.specs.Failure.{cannot_write_text, no_memory_text}
use Rattle.program_files.specs.declared.texts.failure.Failure.{Failure}
use Rattle.program_files.specs.declared.texts.failure.Failure.TheVariants.{TooLong, WrongBlock, NoMemory, CannotWrite}

-- the characters of its text
abbrev pub failure_text : Failure → List ℕ
failure_text TooLong = codes "the text is too long for an index"
failure_text WrongBlock = codes "not the index of a text, or not as it was written"
failure_text NoMemory = no_memory_text
failure_text CannotWrite = cannot_write_text
