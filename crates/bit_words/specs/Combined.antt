-- What a bitwise operation makes of two items, and which items a range has.
use Rattle.std.specs.Prelude.{ℕ, zero, suc, Bool, not, ◌&&◌, ◌||◌, if◌then◌else◌, nat_le, nat_lt}

-- both for operation 0, either for 1, one alone for 2, and the first without the second for each other number
abbrev pub combined : ℕ → Bool → Bool → Bool
combined zero x y = x && y
combined (suc zero) x y = x || y
combined (suc (suc zero)) x y = if y then not x else x
combined (suc (suc (suc op))) x y = x && not y

-- whether i is a position of the range
abbrev pub in_range : ℕ → ℕ → ℕ → Bool
in_range from to i = nat_le from i && nat_lt i to
