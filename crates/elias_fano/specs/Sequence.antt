-- A sequence of numbers, and the first of them that reaches a value.
use Rattle.std.specs.Prelude.{ℕ, ◌+◌, ◌-◌, ◌^◌, ◌<◌, ◌≤◌, List, length, slice_index, Option, MatchOption}
use Rattle.std.specs.List.{All}
use Rattle.std.specs.List.Sorted.{IsNonDecreasing}

-- what is kept as a sequence: fewer than 2^56 numbers of 64 digits, each at least the one before it
pub record IsSequence (xs : List ℕ) : Type 0 where
  pub rising : IsNonDecreasing xs
  pub short : length xs < 2 ^ 56
  pub small : All (λ x. x < 2 ^ 64) xs

-- some item is less than the one before it
abbrev pub HasFall : List ℕ → Type 0
HasFall xs = (k : ℕ) × (k + 1 < length xs) × (slice_index xs (k + 1) < slice_index xs k)

-- the last item, which is the largest, and 0 where there is none
abbrev pub largest : List ℕ → ℕ
largest xs = slice_index xs (length xs - 1)

-- i is the least position whose item is at least v
pub record Reaches (xs : List ℕ) (v i : ℕ) : Type 0 where
  pub inside : i < length xs
  pub at_least : v ≤ slice_index xs i
  pub before : (j : ℕ) → j < i → slice_index xs j < v

-- the least position whose item is at least v, and None exactly where each item is less
abbrev pub IsFirstAtLeast : List ℕ → ℕ → Option ℕ → Type 0
IsFirstAtLeast xs v o = MatchOption o (All (λ x. x < v) xs) (Reaches xs v)

-- the first c items are at most v, and the others are more
pub record ReachesTo (xs : List ℕ) (v c : ℕ) : Type 0 where
  pub bound : c ≤ length xs
  pub below : (j : ℕ) → j < c → slice_index xs j ≤ v
  pub above : (j : ℕ) → c ≤ j → j < length xs → v < slice_index xs j

-- i is the greatest position whose item is at most v
pub record StaysWithin (xs : List ℕ) (v i : ℕ) : Type 0 where
  pub inside : i < length xs
  pub at_most : slice_index xs i ≤ v
  pub after : (j : ℕ) → i < j → j < length xs → v < slice_index xs j

-- the greatest position whose item is at most v, and None exactly where each item is more
abbrev pub IsLastAtMost : List ℕ → ℕ → Option ℕ → Type 0
IsLastAtMost xs v o = MatchOption o (All (λ x. v < x) xs) (StaysWithin xs v)
