-- What an error says of itself.
use Rattle.std.specs.Prelude.{ℕ, List, codes}
use Rattle.matrix_block.specs.declared.error.BuildError.{BuildError}
use Rattle.matrix_block.specs.declared.error.BuildError.TheVariants.{WrongWidth, TooLong, WrongLength, WrongScratch, TooWide}

-- the characters of its text
abbrev pub build_error_text : BuildError → List ℕ
build_error_text WrongWidth = codes "the width is not 1 to 64"
build_error_text TooLong = codes "there are 2^63 bits or more"
build_error_text WrongLength = codes "not as long as the block"
build_error_text WrongScratch = codes "the scratch is not two words for each number"
build_error_text TooWide = codes "a number has more bits than the width"
