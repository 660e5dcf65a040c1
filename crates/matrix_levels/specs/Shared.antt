-- The numbers that two lists share.
use Rattle.std.specs.Prelude.{◌≡◌, ◌+◌, ◌&&◌, nat_lt, if◌then◌else◌, ℕ, zero, suc, true, false, List, length, take, drop, filter, Contains, All}
use Rattle.std.specs.List.Sorted.{IsStrictlyIncreasing}
use Rattle.matrix_levels.specs.Levels.{has_digit}

-- these are the items that stand in both lists, each once, rising
pub record AreShared (xs ys : List ℕ) (zs : List ℕ) : Type 0 where
  pub rising : IsStrictlyIncreasing zs
  pub first : All (Contains xs) zs
  pub second : All (Contains ys) zs
  pub all : (z : ℕ) → Contains xs z → Contains ys z → Contains zs z

-- new is old, and after it the items that stand in both lists
pub record AddsShared (xs ys old new : List ℕ) : Type 0 where
  pub kept : take (length old) new ≡ old
  pub shared : AreShared xs ys (drop (length old) new)

-- how many beginnings of fewer than b digits the items of both lists have, which have b digits: the empty one where
-- neither list is empty, and those of the items that go on with a 0, and with a 1
unfoldable pub shared_prefixes : List ℕ → List ℕ → ℕ → ℕ
shared_prefixes xs ys zero = 0
shared_prefixes xs ys (suc b) =
    if nat_lt 0 (length xs) && nat_lt 0 (length ys)
    then 1 + shared_prefixes (filter (has_digit b false) xs) (filter (has_digit b false) ys) b
    + shared_prefixes (filter (has_digit b true) xs) (filter (has_digit b true) ys) b
    else 0
