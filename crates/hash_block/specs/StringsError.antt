-- What an error says of itself.
use Rattle.std.specs.Prelude.{ℕ, List, codes}
use Rattle.hash_block.specs.declared.strings.error.BuildError.{BuildError}
use Rattle.hash_block.specs.declared.strings.error.BuildError.TheVariants.{TooLong, NotGiven, WrongLength, NotNumbered}

-- the characters of its text
abbrev pub build_error_text : BuildError → List ℕ
build_error_text TooLong = codes "too many words, levels, strings or bytes"
build_error_text NotGiven = codes "not the ends of strings in these bytes"
build_error_text WrongLength = codes "not as long as the block"
build_error_text NotNumbered = codes "not a number for each: take another seed"
