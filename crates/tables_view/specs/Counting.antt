-- What a query answers over tables that may hold anything, of all bits of the words.
use Rattle.std.specs.Prelude.{ℕ, Bool, List, length}
use Rattle.bitm_select.specs.Answers.{HasBit, IsSelected}
use Rattle.bitm_tables.specs.Tables.{HasTables, Lists, bits_in}
use Rattle.bitm_select.specs.Claims.{ClaimsNone}
use Rattle.bitm_tables.specs.Answers.{IfAbsent}
use Rattle.bitm_tables.specs.declared.answer.Answer.{Answer}
use Rattle.tables_view.specs.Ranks.{IsCountWithin, IsRanked}

-- the answer of a selection of the bit v with a rank in b: a position that is found has the bit, whatever the tables
-- hold; where they are right, the answer is that of counting and never Wrong; where it is Absent, `none` holds
pub record IsSelection (b : List Bool) (v : Bool) (right none : Type 0) (rank : ℕ) (answer : Answer ℕ) : Type 0 where
  pub bit : HasBit b v answer
  pub counts : right → IsSelected b v rank answer
  pub absent : IfAbsent answer none

-- among all bits of the words
abbrev pub Selects : Bool → Lists → ℕ → Answer ℕ → Type 0
Selects v lists rank = IsSelection (bits_in lists) v (HasTables lists) (ClaimsNone v lists rank) rank

-- the answer of a rank, the number of bits v among the first `index` of the `len` bits b: whatever the tables hold, a
-- count is at most index, and the answer is Absent exactly where there are fewer bits; where they are right, the answer
-- is that of counting and never Wrong
pub record IsCounting (b : List Bool) (len : ℕ) (v : Bool) (right : Type 0) (index : ℕ) (answer : Answer ℕ) : Type 0 where
  pub within : IsCountWithin len index answer
  pub counts : right → IsRanked b v index answer

-- among all bits of the words
abbrev pub Ranks : Bool → Lists → ℕ → Answer ℕ → Type 0
Ranks v lists index = IsCounting (bits_in lists) (length (bits_in lists)) v (HasTables lists) index
