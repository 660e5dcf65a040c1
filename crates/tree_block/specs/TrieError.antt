-- What an error says of itself.
use Rattle.std.specs.Prelude.{ℕ, List, codes}
use Rattle.tree_block.specs.declared.trie.error.BuildError.{BuildError}
use Rattle.tree_block.specs.declared.trie.error.BuildError.TheVariants.{TooLong, WrongWidth, WrongLabels, WrongEnds, WrongLength, NotATree, NotLabels}

-- the characters of its text
abbrev pub build_error_text : BuildError → List ℕ
build_error_text TooLong = codes "there are 2^57 degrees or more"
build_error_text WrongWidth = codes "the width is not 1 to 63"
build_error_text WrongLabels = codes "not one label for each node but the root"
build_error_text WrongEnds = codes "the ends are not a bit for each node"
build_error_text WrongLength = codes "not as long as the block"
build_error_text NotATree = codes "the degrees are those of no tree"
build_error_text NotLabels = codes "the labels are none for this tree"
