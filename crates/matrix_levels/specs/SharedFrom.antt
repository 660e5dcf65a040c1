-- The numbers from a bound on that two lists share.
use Rattle.std.specs.Prelude.{◌&&◌, nat_lt, nat_le, ℕ, Bool, List, filter}
use Rattle.std.specs.List.{range_with_len}
use Rattle.matrix_levels.specs.Numbers.{count_equal}

-- whether v is in both lists, and at least `from`
abbrev pub is_shared_from : List ℕ → List ℕ → ℕ → ℕ → Bool
is_shared_from xs ys from v = (nat_lt 0 (count_equal xs v) && nat_lt 0 (count_equal ys v)) && nat_le from v

-- those of the numbers from `from` on and below n that are in both lists, rising
unfoldable pub shared_from : List ℕ → List ℕ → ℕ → ℕ → List ℕ
shared_from xs ys n from = filter (is_shared_from xs ys from) (range_with_len 0 n)
