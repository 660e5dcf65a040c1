-- Words as the list of their bits.
use Rattle.std.specs.Prelude.{ℕ, ◌*◌, ◌/◌, ◌%◌, ◌^◌, ◌<◌, Bool, false, ◌==◌, List, map, length, slice_index, slice_index_or}
use Rattle.std.specs.Int.{bit_at}
use Rattle.std.specs.Int.Digits.{digits_of}
use Rattle.std.specs.List.{range_with_len}

-- binary digit j of v, lowest first
abbrev pub digit : ℕ → ℕ → Bool
digit v j = bit_at v j == 1

-- the n lowest binary digits of v, lowest first
unfoldable pub low_digits : ℕ → ℕ → List Bool
low_digits n v = map (digit v) (range_with_len 0 n)

-- bit i of words: digit i mod 64 of word i / 64
abbrev pub bit_of : List ℕ → ℕ → Bool
bit_of words i = digit (slice_index words (i / 64)) (i % 64)

-- the bits of words
unfoldable pub bits_of : List ℕ → List Bool
bits_of words = map (bit_of words) (range_with_len 0 (64 * length words))

-- item i of b, and false past the end
abbrev pub item : List Bool → ℕ → Bool
item b i = slice_index_or b i false

-- few enough words that positions of bits, and their number, fit a `usize` with room to spare
abbrev pub IsShort : List ℕ → Type 0
IsShort words = length words < 2 ^ 58

-- how many binary digits n has, none for 0
unfoldable pub digit_count : ℕ → ℕ
digit_count n = length (digits_of 2 n)
