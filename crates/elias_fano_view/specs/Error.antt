-- What an error says of itself.
use Rattle.std.specs.Prelude.{ℕ, List, codes}
use Rattle.elias_fano_view.specs.declared.error.BuildError.{BuildError}
use Rattle.elias_fano_view.specs.declared.error.BuildError.TheVariants.{WrongLength, NotSorted}

-- the characters of its text
abbrev pub error_text : BuildError → List ℕ
error_text WrongLength = codes "a part has not the length that it has to have"
error_text NotSorted = codes "a number is less than the one before it"
