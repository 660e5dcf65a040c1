-- What a query answers of the bit vector that starts the words, over tables that may hold anything.
use Rattle.std.specs.Prelude.{ℕ, ◌+◌, ◌-◌, ◌^◌, Bool, List, if◌then◌else◌, nat_eq}
use Rattle.bitm_select.specs.Answers.{HasBit, IsFoundFrom}
use Rattle.bitm_tables.specs.Tables.{HasTables}
use Rattle.bitm_tables.specs.declared.answer.Answer.{Answer}
use Rattle.bitm_tables.specs.declared.answer.Answer.TheVariants.{Found, Absent, Wrong}
use Rattle.bitm_view.specs.Cut.{Cut, bits_of_cut, ClaimsNoneOf}
use Rattle.tables_view.specs.Counting.{IsCounting, IsSelection}
use Rattle.tables_view.specs.Nearest.{IsNext, IsPrevious}

-- a selection among the bits of the bit vector
abbrev pub SelectsIn : Bool → Cut → ℕ → Answer ℕ → Type 0
SelectsIn v c rank = IsSelection (bits_of_cut c) v (HasTables c.lists) (ClaimsNoneOf v c rank) rank

-- a rank among them
abbrev pub RanksIn : Bool → Cut → ℕ → Answer ℕ → Type 0
RanksIn v c index = IsCounting (bits_of_cut c) c.len v (HasTables c.lists) index

-- the answer of a search for the next bit v from a position on: whatever the tables hold, a position that is found is
-- from there on and before the end, and has the bit; where they are right, it is the least such position
pub record FindsNext (b : List Bool) (len : ℕ) (v : Bool) (right : Type 0) (s : ℕ) (answer : Answer ℕ) : Type 0 where
  pub bit : HasBit b v answer
  pub from : IsFoundFrom s len answer
  pub counts : right → IsNext b v s answer

abbrev pub NextIn : Bool → Cut → ℕ → Answer ℕ → Type 0
NextIn v c = FindsNext (bits_of_cut c) c.len v (HasTables c.lists)

-- the answer of a search for the previous bit v up to a position: whatever the tables hold, a position that is found is
-- at most that one, and has the bit; where they are right, it is the greatest such position
pub record FindsPrevious (b : List Bool) (v : Bool) (right : Type 0) (s : ℕ) (answer : Answer ℕ) : Type 0 where
  pub bit : HasBit b v answer
  pub to : IsFoundFrom 0 (s + 1) answer
  pub counts : right → IsPrevious b v s answer

abbrev pub PreviousIn : Bool → Cut → ℕ → Answer ℕ → Type 0
PreviousIn v c = FindsPrevious (bits_of_cut c) v (HasTables c.lists)

-- the answer that a number of a list codes: the two greatest numbers stand for Absent and Wrong
abbrev pub selected_by : ℕ → Answer ℕ
selected_by n = if nat_eq n (2 ^ 64 - 1) then Absent else if nat_eq n (2 ^ 64 - 2) then Wrong else Found n

abbrev pub ranked_by : ℕ → Answer ℕ
ranked_by = selected_by
