-- How far a call reaches that does not mask, and items that are negated.
use Rattle.std.specs.Prelude.{ℕ, ◌+◌, ◌-◌, ◌%◌, Bool, not, if◌then◌else◌, nat_le, List, [], ◌∷◌, ◌++◌, take, drop}
use Rattle.bit_lists.specs.Bits.{low_digits}

-- how many bits from begin on a call reaches that asks for len: to the end of the word, or 64 where these are too few
abbrev pub reach_of : ℕ → ℕ → ℕ
reach_of begin len = if nat_le (begin % 64 + len) 64 then 64 - begin % 64 else 64

-- the items of b, negated where the item of ds at the same position is true
abbrev pub negate_where : List Bool → List Bool → List Bool
negate_where [] b = b
negate_where (d ∷ ds) [] = []
negate_where (d ∷ ds) (x ∷ b) = (if d then not x else x) ∷ negate_where ds b

-- b with item begin + j negated where digit j of v is one, for each j below the reach
unfoldable pub with_flips : List Bool → ℕ → ℕ → ℕ → List Bool
with_flips b begin len v = take begin b ++ negate_where (low_digits (reach_of begin len) v) (drop begin b)
