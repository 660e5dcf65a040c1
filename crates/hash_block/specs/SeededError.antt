-- What an error says of itself.
use Rattle.std.specs.Prelude.{ℕ, List, codes}
use Rattle.hash_block.specs.declared.seeded.error.BuildError.{BuildError}
use Rattle.hash_block.specs.declared.seeded.error.BuildError.TheVariants.{TooLong, NotLevels, NotSeeds, WrongLength}

-- the characters of its text
abbrev pub build_error_text : BuildError → List ℕ
build_error_text TooLong = codes "there are 2^58 words or more"
build_error_text NotLevels = codes "not the sizes of levels of these words"
build_error_text NotSeeds = codes "not a seed for each word"
build_error_text WrongLength = codes "not as long as the block"
