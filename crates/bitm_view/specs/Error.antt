-- What an error says of itself.
use Rattle.std.specs.Prelude.{ℕ, List, codes}
use Rattle.bitm_view.specs.declared.bits.error.BuildError.{BuildError}
use Rattle.bitm_view.specs.declared.bits.error.BuildError.TheVariants.{TooLong, TooFewBits, WrongLength}

-- the characters of its text
abbrev pub build_error_text : BuildError → List ℕ
build_error_text TooLong = codes "the bits are too many for a block"
build_error_text TooFewBits = codes "the words have fewer bits"
build_error_text WrongLength = codes "not as long as the block"
