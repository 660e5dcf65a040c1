-- What is asked of a list of numbers, and of a range of it.
use Rattle.std.specs.Prelude.{◌≡◌, ℕ, ◌<◌, ◌≤◌, ◌==◌, ◌&&◌, nat_lt, nat_le, List, length, take, slice_index, count_by, Option, MatchOption, All, Contains}

-- how many of the first i items are v; past the end, of all
abbrev pub occurrences_before : List ℕ → ℕ → ℕ → ℕ
occurrences_before xs v i = count_by (λ x. x == v) (take i xs)

-- how many items are v
abbrev pub count_equal : List ℕ → ℕ → ℕ
count_equal xs v = count_by (λ x. x == v) xs

-- p is the position of the item v with exactly k such items before it
pub record PicksItem (xs : List ℕ) (v k p : ℕ) : Type 0 where
  pub inside : p < length xs
  pub item : slice_index xs p ≡ v
  pub before : occurrences_before xs v p ≡ k

-- how many of the first i items are v, and None exactly where there are fewer items
abbrev pub IsItemRank : List ℕ → ℕ → ℕ → Option ℕ → Type 0
IsItemRank xs v i o = MatchOption o (length xs < i) (λ n. (i ≤ length xs) × (n ≡ occurrences_before xs v i))

-- the position of the item v with k such items before it, and None exactly where there are no more than k of them
abbrev pub IsItemSelect : List ℕ → ℕ → ℕ → Option ℕ → Type 0
IsItemSelect xs v k o = MatchOption o (occurrences_before xs v (length xs) ≤ k) (PicksItem xs v k)

-- for each position the item there
abbrev pub GetsEach : List ℕ → List ℕ → List ℕ → Type 0
GetsEach xs positions items = (k : ℕ) → k < length positions → slice_index items k ≡ slice_index xs (slice_index positions k)

-- for each number and position how many items before the position are the number
abbrev pub RanksEachNumber : List ℕ → List ℕ → List ℕ → List ℕ → Type 0
RanksEachNumber xs numbers positions ranks =
    (k : ℕ) → k < length positions → slice_index ranks k ≡ occurrences_before xs (slice_index numbers k) (slice_index positions k)

-- how many items are less than v
abbrev pub count_less : List ℕ → ℕ → ℕ
count_less xs v = count_by (λ x. nat_lt x v) xs

-- how many items are at least low and less than high
abbrev pub count_between : List ℕ → ℕ → ℕ → ℕ
count_between xs low high = count_by (λ x. nat_le low x && nat_lt x high) xs

-- x would stand at position k if the items were sorted: it is an item, at most k are less, and more than k are at most x
pub record IsSmallest (xs : List ℕ) (k x : ℕ) : Type 0 where
  pub item : Contains xs x
  pub less : count_less xs x ≤ k
  pub at_most : k < count_by (λ y. nat_le y x) xs

-- the least item that is at least v, and None exactly where all are less
abbrev pub IsNextItem : List ℕ → ℕ → Option ℕ → Type 0
IsNextItem xs v o = MatchOption o (All (λ y. y < v) xs) (λ x. Contains xs x × (v ≤ x) × All (λ y. v ≤ y → x ≤ y) xs)

-- the greatest item that is less than v, and None exactly where none is
abbrev pub IsPreviousItem : List ℕ → ℕ → Option ℕ → Type 0
IsPreviousItem xs v o = MatchOption o (All (λ y. v ≤ y) xs) (λ x. Contains xs x × (x < v) × All (λ y. y < v → y ≤ x) xs)
