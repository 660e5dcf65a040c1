-- What an error says of itself.
use Rattle.std.specs.Prelude.{ℕ, List, ◌++◌, codes}
use Rattle.std.specs.Fmt.{decimal}
use Rattle.perfect_hash.specs.declared.levels.error.BuildError.{BuildError}
use Rattle.perfect_hash.specs.declared.levels.error.BuildError.TheVariants.{KeysCollide, TooLarge, OutOfMemory}

-- the characters of its text
abbrev pub error_text : BuildError → List ℕ
error_text (KeysCollide left) = decimal left ++ codes " keys collide: equal, or of equal hashes"
error_text TooLarge = codes "the first level has 2^50 words or more"
error_text OutOfMemory = codes "no memory"
