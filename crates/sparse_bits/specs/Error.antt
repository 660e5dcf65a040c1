-- What an error says of itself.
use Rattle.std.specs.Prelude.{ℕ, List, codes}
use Rattle.sparse_bits.specs.declared.error.SparseError.{SparseError}
use Rattle.sparse_bits.specs.declared.error.SparseError.TheVariants.{TooLong, NotRising, PastEnd, OutOfMemory}

-- the characters of its text
abbrev pub error_text : SparseError → List ℕ
error_text TooLong = codes "there are 2^56 1 bits or more"
error_text NotRising = codes "a position is not greater than the one before it"
error_text PastEnd = codes "a position is not less than the number of bits"
error_text OutOfMemory = codes "no memory"
