-- What the exported calls answer of the first bits of words: a status, and a number written where the caller says.
use Rattle.std.specs.Prelude.{◌≡◌, ℕ, ◌+◌, ◌-◌, ◌<◌, ◌≤◌, Bool, List, length, min, slice_index}
use Rattle.bit_lists.specs.Count.{count_before, count_of, Picks}
use Rattle.bitm_view.specs.Cut.{Cut, IsSizedCut}
use Rattle.bitm_view.specs.Queries.{NextIn, PreviousIn, RanksIn, SelectsIn}
use Rattle.bitm_abi.specs.Status.{Exported}

-- a rank of the first index bits, of kind v
abbrev pub RankAnswered : Bool → Cut → ℕ → ℕ → ℕ → ℕ → Type 0
RankAnswered v c index = Exported (IsSizedCut c) (RanksIn v c index)

-- a selection of the bit v by rank
abbrev pub SelectAnswered : Bool → Cut → ℕ → ℕ → ℕ → ℕ → Type 0
SelectAnswered v c rank = Exported (IsSizedCut c) (SelectsIn v c rank)

-- the next bit v from a position on, and the previous one up to it
abbrev pub NextAnswered : Bool → Cut → ℕ → ℕ → ℕ → ℕ → Type 0
NextAnswered v c from = Exported (IsSizedCut c) (NextIn v c from)

abbrev pub PreviousAnswered : Bool → Cut → ℕ → ℕ → ℕ → ℕ → Type 0
PreviousAnswered v c from = Exported (IsSizedCut c) (PreviousIn v c from)

-- the positions of the bits v from a position on, as many as the list has room for: the list before and after the call,
-- whose rest keeps its values, and how many were written
pub record PositionsWritten (v : Bool) (b : List Bool) (from : ℕ) (old new : List ℕ) (written : ℕ) : Type 0 where
  pub number : written ≡ min (length old) (count_of b v - count_before b v from)
  pub positions : (j : ℕ) → j < written → Picks b v (count_before b v from + j) (slice_index new j)
  pub behind : (j : ℕ) → written ≤ j → slice_index new j ≡ slice_index old j
