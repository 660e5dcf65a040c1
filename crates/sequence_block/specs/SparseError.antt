-- What an error says of itself.
use Rattle.std.specs.Prelude.{ℕ, List, codes}
use Rattle.sequence_block.specs.declared.sparse.error.BuildError.{BuildError}
use Rattle.sequence_block.specs.declared.sparse.error.BuildError.TheVariants.{TooLong, WrongLength, NotRising, PastEnd}

-- the characters of its text
abbrev pub build_error_text : BuildError → List ℕ
build_error_text TooLong = codes "there are 2^56 1 bits or more"
build_error_text WrongLength = codes "not as long as the block"
build_error_text NotRising = codes "a position is not greater than the one before it"
build_error_text PastEnd = codes "a position is not less than the number of bits"
