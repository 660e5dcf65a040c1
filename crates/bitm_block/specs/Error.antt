-- What an error says of itself.
use Rattle.std.specs.Prelude.{ℕ, List, codes}
use Rattle.bitm_block.specs.declared.error.OpenError.{OpenError}
use Rattle.bitm_block.specs.declared.error.OpenError.TheVariants.{TooShort, NotABlock, OtherVersion, WrongHeader, UnknownFeature, WrongLength, WrongDirectory}
use Rattle.bitm_block.specs.declared.error.WriteError.{WriteError}
use Rattle.bitm_block.specs.declared.error.WriteError.TheVariants.{TooLarge}

-- the characters of its text
abbrev pub open_error_text : OpenError → List ℕ
open_error_text TooShort = codes "fewer words than a header has"
open_error_text NotABlock = codes "not a block"
open_error_text OtherVersion = codes "a block of another version"
open_error_text WrongHeader = codes "the header is damaged"
open_error_text UnknownFeature = codes "a feature of a later version"
open_error_text WrongLength = codes "not as long as the header says"
open_error_text WrongDirectory = codes "the directory is wrong"

abbrev pub write_error_text : WriteError → List ℕ
write_error_text TooLarge = codes "too many sections or items"
write_error_text _ = codes "not as long as the block"
