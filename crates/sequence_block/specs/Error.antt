-- What an error says of itself.
use Rattle.std.specs.Prelude.{ℕ, List, codes}
use Rattle.sequence_block.specs.declared.error.BuildError.{BuildError}
use Rattle.sequence_block.specs.declared.error.BuildError.TheVariants.{TooLong, WrongLength, NotSorted}

-- the characters of its text
abbrev pub build_error_text : BuildError → List ℕ
build_error_text TooLong = codes "there are 2^56 numbers or more"
build_error_text WrongLength = codes "not as long as the block"
build_error_text NotSorted = codes "a number is less than the one before it"
