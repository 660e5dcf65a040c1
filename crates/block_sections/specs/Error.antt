-- What an error says of itself.
use Rattle.std.specs.Prelude.{ℕ, List, codes}
use Rattle.block_sections.specs.declared.error.ExtendError.{ExtendError}
use Rattle.block_sections.specs.declared.error.ExtendError.TheVariants.{NotABlock, TooLarge, WrongWords, WrongLength, NotVerified}

-- the characters of its text
abbrev pub extend_error_text : ExtendError → List ℕ
extend_error_text NotABlock = codes "not a block"
extend_error_text TooLarge = codes "too many sections or items"
extend_error_text WrongWords = codes "not as many words as the items take"
extend_error_text WrongLength = codes "not as long as the block"
extend_error_text NotVerified = codes "a section is not as it was written"
