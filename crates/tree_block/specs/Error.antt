-- What an error says of itself.
use Rattle.std.specs.Prelude.{ℕ, List, codes}
use Rattle.tree_block.specs.declared.error.BuildError.{BuildError}
use Rattle.tree_block.specs.declared.error.BuildError.TheVariants.{TooLong, WrongLength, NotATree}

-- the characters of its text
abbrev pub build_error_text : BuildError → List ℕ
build_error_text TooLong = codes "there are 2^60 degrees or more"
build_error_text WrongLength = codes "not as long as the block"
build_error_text NotATree = codes "the degrees are those of no tree"
