-- What an error says of itself.
use Rattle.std.specs.Prelude.{ℕ, List, codes}
use Rattle.elias_fano.specs.declared.error.EfError.{EfError}
use Rattle.elias_fano.specs.declared.error.EfError.TheVariants.{TooLong, NotSorted, OutOfMemory}

-- the characters of its text
abbrev pub error_text : EfError → List ℕ
error_text TooLong = codes "there are 2^56 numbers or more"
error_text NotSorted = codes "a number is less than the one before it"
error_text OutOfMemory = codes "no memory"
