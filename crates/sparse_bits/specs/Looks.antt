-- Positions of 1 bits, and how often they were searched and read.
use Rattle.std.specs.Prelude.{◌≡◌, ℕ, ◌+◌, ◌≤◌}

-- the positions, the number of bits, the number of searches for a successor among the positions, and the number of
-- positions that were read
pub record Looks (P : Type 0) : Type 0 where
  pub positions : P
  pub len : ℕ
  pub searches : ℕ
  pub gets : ℕ

-- none was made
abbrev pub no_looks : {P : Type 0} → P → ℕ → Looks P
no_looks positions n = record { positions = positions; len = n; searches = 0; gets = 0 }

-- one more search
abbrev pub one_more_search : {P : Type 0} → Looks P → Looks P
one_more_search l = record l { searches = l.searches + 1 }

-- one more position was read
abbrev pub one_more_get : {P : Type 0} → Looks P → Looks P
one_more_get l = record l { gets = l.gets + 1 }

-- between old and new at most these numbers of searches and reads of a position were made, in the same positions
pub record LooksAtMost {P : Type 0} (old new : Looks P) (most_searches most_gets : ℕ) : Type 0 where
  pub positions : new.positions ≡ old.positions
  pub len : new.len ≡ old.len
  pub searches : new.searches ≤ old.searches + most_searches
  pub gets : new.gets ≤ old.gets + most_gets
