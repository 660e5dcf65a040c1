-- The levels of a matrix: a list of numbers, partitioned by one binary digit after another, the highest first.
use Rattle.std.specs.Prelude.{◌≡◌, ℕ, ◌+◌, ◌-◌, ◌/◌, ◌^◌, ◌≤◌, ◌==◌, nat_lt, ◌*◌, Bool, true, false, List, [], ◌++◌, length, map, filter, take, count_by, slice_range, min, All, zero, suc}
use Rattle.bit_lists.specs.Bits.{digit, digit_count}
use Rattle.bit_lists.specs.Count.{is_same}

-- whether binary digit b of x is v
abbrev pub has_digit : ℕ → Bool → ℕ → Bool
has_digit b v x = is_same v (digit x b)

-- those whose digit b is 0, in their order, and after them those whose digit b is 1
unfoldable pub partition : ℕ → List ℕ → List ℕ
partition b xs = filter (has_digit b false) xs ++ filter (has_digit b true) xs

-- digit b of each
unfoldable pub column : ℕ → List ℕ → List Bool
column b xs = map (λ x. digit x b) xs

-- the list after d partitions, by digits w - 1, w - 2 and so on
unfoldable pub level : List ℕ → ℕ → ℕ → List ℕ
level xs w zero = xs
level xs w (suc d) = partition (w - 1 - d) (level xs w d)

-- the digits by which the first d levels are partitioned, level after level
unfoldable pub columns : List ℕ → ℕ → ℕ → List Bool
columns xs w zero = []
columns xs w (suc d) = columns xs w d ++ column (w - 1 - d) (level xs w d)

-- where an item at position p whose digit b is v stands after the partition by digit b: as many with that digit stand
-- before it as before, and where v is 1 all those with a 0
unfoldable pub partition_position : ℕ → Bool → List ℕ → ℕ → ℕ
partition_position b false xs p = count_by (has_digit b false) (take p xs)
partition_position b true xs p = count_by (has_digit b false) xs + count_by (has_digit b true) (take p xs)

-- of the items from position f to l those whose digit b is v stand from s to e after the partition by digit b
abbrev pub ArePositionsAfter : ℕ → Bool → List ℕ → ℕ → ℕ → ℕ → ℕ → Type 0
ArePositionsAfter b v xs f l s e = (s ≡ partition_position b v xs f) × (e ≡ partition_position b v xs l)

-- where an item at position p that has the digits of x stands after d partitions
unfoldable pub level_position : List ℕ → ℕ → ℕ → ℕ → ℕ → ℕ
level_position xs w x zero p = p
level_position xs w x (suc d) p = partition_position (w - 1 - d) (digit x (w - 1 - d)) (level xs w d) (level_position xs w x d p)

-- whether x without its b lowest digits is h
abbrev pub has_prefix : ℕ → ℕ → ℕ → Bool
has_prefix b h x = x / 2 ^ b == h

-- the items from position f to l of level d are h without their w - d lowest digits
pub record BeginAlike (xs : List ℕ) (w d h f l : ℕ) : Type 0 where
  pub order : f ≤ l
  pub inside : l ≤ length xs
  pub begin : All (λ x. x / 2 ^ (w - d) ≡ h) (slice_range (level xs w d) f l)

-- whether x without its b lowest digits is less than h
abbrev pub has_lesser_prefix : ℕ → ℕ → ℕ → Bool
has_lesser_prefix b h x = nat_lt (x / 2 ^ b) h

-- how many of the w digits of n numbers are known from the table of starts, which has a word for each number of so
-- many digits: as many as leave the table no more than a 64th of the n * w bits, or none
abbrev pub known_of : ℕ → ℕ → ℕ
known_of n w = min w (digit_count (n * w / 4096) - 1)
