-- A file that holds the index of a text, or a block that is as long as one.
use Rattle.std.specs.Prelude.{◌≡◌, ℕ, Bool, true, List, Some}
use Rattle.bitm_block.specs.Header.{IsVerified}
use Rattle.program_files.specs.Bytes.{words_of_bytes}
use Rattle.text_block.specs.Block.{parts_in, IsSoundBlock, IsTextBlock, bytes_of_parts}

-- the bytes are those of the block of this text's index, as it was written
pub record IsTextFile (bytes text : List ℕ) : Type 0 where
  pub block : List ℕ
  pub words : words_of_bytes bytes ≡ Some block
  pub sound : IsSoundBlock block
  pub text_is : text ≡ bytes_of_parts (parts_in block)

-- header and directory of the block are those of a text; and where its sums are looked at, these are right
pub record IsOpened (sums : Bool) (block : List ℕ) : Type 0 where
  pub text_block : IsTextBlock block
  pub verified : sums ≡ true → IsVerified block
