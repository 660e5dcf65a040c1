-- Where lists of numbers stop ascending, and where they pass a bound.
use Rattle.std.specs.Prelude.{◌≡◌, ℕ, ◌-◌, ◌<◌, ◌≤◌, Bool, false, List, length, slice_index}

-- item i is less than the item before it or, where items rise strictly, equal to it
pub record IsFallAt (xs : List ℕ) (strictly : Bool) (i : ℕ) : Type 0 where
  pub second : 1 ≤ i
  pub inside : i < length xs
  pub most : slice_index xs i ≤ slice_index xs (i - 1)
  pub fall : strictly ≡ false → slice_index xs i < slice_index xs (i - 1)

-- item i is above `most`
pub record IsAboveAt (xs : List ℕ) (most i : ℕ) : Type 0 where
  pub inside : i < length xs
  pub above : most < slice_index xs i
