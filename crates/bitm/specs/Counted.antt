-- A value that has rank and selection, and the number of ranks and selections that were made in it.
use Rattle.std.specs.Prelude.{◌≡◌, ℕ, ◌+◌, ◌≤◌}

-- the value, and the number of ranks and selections that were made in it
pub record Queries (I : Type 0) : Type 0 where
  pub value : I
  pub ranks : ℕ
  pub selections : ℕ

-- none was made
abbrev pub no_queries : {I : Type 0} → I → Queries I
no_queries value = record { value = value; ranks = 0; selections = 0 }

-- one more rank
abbrev pub one_more_rank : {I : Type 0} → Queries I → Queries I
one_more_rank q = record q { ranks = q.ranks + 1 }

-- one more selection
abbrev pub one_more_selection : {I : Type 0} → Queries I → Queries I
one_more_selection q = record q { selections = q.selections + 1 }

-- between old and new at most these numbers of ranks and selections were made, in the same value
pub record QueriesAtMost {I : Type 0} (old new : Queries I) (most_ranks most_selections : ℕ) : Type 0 where
  pub same : new.value ≡ old.value
  pub ranks : new.ranks ≤ old.ranks + most_ranks
  pub selections : new.selections ≤ old.selections + most_selections
