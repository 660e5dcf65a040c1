-- The numbers that two lists share, so far.
use Rattle.std.specs.Prelude.{ℕ, ◌<◌, ◌≤◌, ◌↔◌, List, length, slice_index}
use Rattle.std.specs.List.{Contains}

-- exactly the numbers that stand in both lists
abbrev pub AreCommon : List ℕ → List ℕ → List ℕ → Type 0
AreCommon xs ys found = (x : ℕ) → Contains found x ↔ (Contains xs x × Contains ys x)

-- those of the first so many items of xs that stand in ys
pub record AreCommonTo (xs ys : List ℕ) (at : ℕ) (found : List ℕ) : Type 0 where
  pub bound : at ≤ length xs
  pub both : (x : ℕ) → Contains found x → Contains xs x × Contains ys x
  pub all : (k : ℕ) → k < at → Contains ys (slice_index xs k) → Contains found (slice_index xs k)
