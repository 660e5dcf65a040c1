-- Digits 0 to 3 in lines of eight words, and the plain counting of a digit among them.
use Rattle.std.specs.Prelude.{◌≡◌, ℕ, ◌+◌, ◌-◌, ◌*◌, ◌/◌, ◌%◌, ◌^◌, ◌<◌, ◌≤◌, ◌==◌, List, map, length, slice_index, take, count_by, Option, MatchOption}
use Rattle.std.specs.Int.{bit_at}
use Rattle.std.specs.List.{range_with_len}

-- the low bits of digits 64 j to 64 j + 63 of line k
abbrev pub low_word : List ℕ → ℕ → ℕ → ℕ
low_word words k j = slice_index words (8 * k + 1 + 2 * j)

-- the high bits of digits 64 j to 64 j + 63 of line k: the last 32 digits have theirs in the upper half of the last
-- word
abbrev pub high_word : List ℕ → ℕ → ℕ → ℕ
high_word words k j = slice_index words (8 * k + 2 + 2 * j - j / 3) / 2 ^ (32 * (j / 3))

-- the digit at position r of line k
abbrev pub digit_in : List ℕ → ℕ → ℕ → ℕ
digit_in words k r = bit_at (low_word words k (r / 64)) (r % 64) + 2 * bit_at (high_word words k (r / 64)) (r % 64)

-- the digit at position i of the lines
abbrev pub digit_of : List ℕ → ℕ → ℕ
digit_of words i = digit_in words (i / 224) (i % 224)

-- the digits of whole lines, 224 of each
unfoldable pub digits_of : List ℕ → List ℕ
digits_of words = map (digit_of words) (range_with_len 0 (224 * (length words / 8)))

-- how many of the first i digits are d; past the end, of all
unfoldable pub digits_before : ℕ → List ℕ → ℕ → ℕ
digits_before d digits i = count_by (λ x. x == d) (take i digits)

-- how many of the first i digits are d, and None exactly where there are fewer digits
abbrev pub IsDigitRank : List ℕ → ℕ → ℕ → Option ℕ → Type 0
IsDigitRank digits d i o = MatchOption o (length digits < i) (λ r. (i ≤ length digits) × (r ≡ digits_before d digits i))

-- the digit at position p is d, and exactly r of the digits before it are d
pub record PicksDigit (digits : List ℕ) (d r p : ℕ) : Type 0 where
  pub inside : p < length digits
  pub digit : slice_index digits p ≡ d
  pub before : digits_before d digits p ≡ r

-- the two binary digits of a number from binary digit k on
abbrev pub digit_from : ℕ → ℕ → ℕ
digit_from k v = v / 2 ^ k % 4
