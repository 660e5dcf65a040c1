-- The distinct numbers of a list, and how often each is in it.
use Rattle.std.specs.Prelude.{◌≡◌, ℕ, ◌+◌, ◌<◌, ◌≤◌, ◌&&◌, nat_lt, nat_le, Bool, List, map, filter, All, Contains}
use Rattle.std.specs.List.{AllPairs, range_with_len}
use Rattle.matrix_levels.specs.Numbers.{count_equal, count_less}

-- a number, and how often it is in the list
abbrev pub tally : List ℕ → ℕ → ℕ × ℕ
tally xs v = (v, count_equal xs v)

-- these are the numbers of the list, each once, rising, with how often each is in it
pub record AreDistinct (xs : List ℕ) (pairs : List (ℕ × ℕ)) : Type 0 where
  pub rising : AllPairs (λ p q. p.0 < q.0) pairs
  pub counts : All (λ p. Contains xs p.0 × (p.1 ≡ count_equal xs p.0)) pairs
  pub all : All (λ x. Contains pairs (tally xs x)) xs

-- whether v is in the list, and at least the given number of items are less
abbrev pub is_coming : List ℕ → ℕ → ℕ → Bool
is_coming xs less v = nat_lt 0 (count_equal xs v) && nat_le less (count_less xs v)

-- those of the numbers below n, rising, each with how often it is in the list
unfoldable pub coming_tallies : List ℕ → ℕ → ℕ → List (ℕ × ℕ)
coming_tallies xs n less = map (tally xs) (filter (is_coming xs less) (range_with_len 0 n))

-- whether v is in the list, and at least `from`
abbrev pub is_from : List ℕ → ℕ → ℕ → Bool
is_from xs from v = nat_lt 0 (count_equal xs v) && nat_le from v

-- those of the numbers from `from` on and below n, rising, each with how often it is in the list
unfoldable pub tallies_from : List ℕ → ℕ → ℕ → List (ℕ × ℕ)
tallies_from xs n from = map (tally xs) (filter (is_from xs from) (range_with_len 0 n))

-- all items are below n, and the given number is that of the items less than some number, so that equal items are
-- counted together
pub record StandsBetween (xs : List ℕ) (n less : ℕ) : Type 0 where
  pub fit : All (λ x. x < n) xs
  pub whole : (v : ℕ) → count_less xs v < less → count_less xs (v + 1) ≤ less
