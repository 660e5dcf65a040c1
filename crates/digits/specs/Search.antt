-- What a search by halves looks for, and what it knows on the way.
use Rattle.std.specs.Prelude.{ℕ, ◌+◌, ◌<◌, ◌≤◌}

-- k is one of the indices from `first` on and before `end`, its count is at most r, and the count of the next one is
-- above r; where counts rise, it is the last such index
pub record IsLastCount (count : ℕ → ℕ) (first end r k : ℕ) : Type 0 where
  pub from : first ≤ k
  pub inside : k < end
  pub at_most : count k ≤ r
  pub next : k + 1 < end → r < count (k + 1)

-- the last index with a count of at most r is among the `left` indices from low on
pub record IsAmongCounts (count : ℕ → ℕ) (first end r low left : ℕ) : Type 0 where
  pub some : 0 < left
  pub from : first ≤ low
  pub bound : low + left ≤ end
  pub at_most : count low ≤ r
  pub above : low + left < end → r < count (low + left)
