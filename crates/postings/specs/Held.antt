-- What a cursor over a sequence holds.
use Rattle.std.specs.Prelude.{ℕ, List}
use Rattle.bitm_tables.specs.Tables.{HasSizes, Lists}
use Rattle.bitm.specs.declared.ReadCounts.{ReadCounts}
use Rattle.elias_fano.specs.SequenceParts.{parts_of, Holds}
use Rattle.elias_fano.specs.Parts.{items_of}
use Rattle.postings.specs.Moves.{IsHere}
use Rattle.postings.specs.declared.spot.Spot.{Spot}

-- the numbers from the cursor on and all of them, how often it was asked, what was read, how many low bits each number
-- has, and the words of the high bits with their tables
pub record SeekerValue : Type 0 where
  pub left : List ℕ
  pub items : List ℕ
  pub calls : ℕ
  pub reads : ReadCounts
  pub fragments : ℕ
  pub width : ℕ
  pub lists : Lists

-- the parts of a sequence, and a spot of it or the end
pub record IsSpotHeld (n width : ℕ) (low : List ℕ) (lists : Lists) (spot : Spot) : Type 0 where
  pub parts : Holds (items_of n width low lists.words) (parts_of n width low lists)
  pub sizes : HasSizes lists
  pub here : IsHere (items_of n width low lists.words) lists.words n spot
