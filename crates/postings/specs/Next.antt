-- What a cursor answers, over a list of numbers that never decrease.
use Rattle.std.specs.Prelude.{◌≡◌, ℕ, ◌<◌, ◌≤◌, List, [], length, slice_index, drop, Option, MatchOption}

-- the numbers from a cursor on, and how often it was asked
pub record CursorValue : Type 0 where
  pub left : List ℕ
  pub calls : ℕ

-- x is the first of the numbers, at least v, and no more than each
pub record IsFirstOf (xs : List ℕ) (v x : ℕ) : Type 0 where
  pub some : 0 < length xs
  pub is : x ≡ slice_index xs 0
  pub at_least : v ≤ x
  pub least : (j : ℕ) → j < length xs → x ≤ slice_index xs j

-- there is a first number, and it is at least v
abbrev pub IsReached : List ℕ → ℕ → Type 0
IsReached xs v = (0 < length xs) × (v ≤ slice_index xs 0)

-- of the numbers from the old position on, those before the first that is at least v were passed, and no others; None
-- exactly where none is left
pub record IsNextAtLeast (old : List ℕ) (v : ℕ) (o : Option ℕ) (new : List ℕ) : Type 0 where
  pub passed : ℕ
  pub rest : new ≡ drop passed old
  pub bound : passed ≤ length old
  pub less : (j : ℕ) → j < passed → slice_index old j < v
  pub answer : MatchOption o (new ≡ []) (IsFirstOf new v)
