-- Hints: the positions of each 128th 1 bit, or 0 bit, of words.
use Rattle.std.specs.Prelude.{◌≡◌, ℕ, ◌+◌, ◌-◌, ◌*◌, ◌/◌, ◌%◌, ◌^◌, ◌<◌, ◌≤◌, Bool, true, false, if◌then◌else◌, nat_lt, min, List, drop, length, slice_index, take}
use Rattle.std.specs.Int.{div_ceil}
use Rattle.bit_lists.specs.Bits.{bits_of, digit_count}
use Rattle.bit_lists.specs.Count.{count_of, Picks}
use Rattle.bitm_tables.specs.declared.source.counts.ReadCounts.{ReadCounts}
use Rattle.bitm_tables.specs.Tables.{Lists}

-- how many words the hints of n bits of a kind take: two hints in a word
abbrev pub hint_words : ℕ → ℕ
hint_words n = div_ceil n 256

-- p is the position of the bit v with 128 k such bits before it, and 2^32 - 1 where there is none
pub record IsHint (v : Bool) (b : List Bool) (k p : ℕ) : Type 0 where
  pub some : 128 * k < count_of b v → Picks b v (128 * k) p
  pub none : count_of b v ≤ 128 * k → p ≡ 2 ^ 32 - 1

-- the lower half of the number w is hint 2 k, and the upper half hint 2 k + 1
pub record ArePair (v : Bool) (b : List Bool) (k w : ℕ) : Type 0 where
  pub low : IsHint v b (2 * k) (w % 2 ^ 32)
  pub high : IsHint v b (2 * k + 1) (w / 2 ^ 32)

-- each number is a pair of hints of the bits v
abbrev pub ArePairs : Bool → List Bool → List ℕ → Type 0
ArePairs v b hints = (k : ℕ) → k < length hints → ArePair v b k (slice_index hints k)

-- the hints are those of the bits v of the words, of which no position is 2^32 - 1; there may be none
pub record AreHints (v : Bool) (words hints : List ℕ) : Type 0 where
  pub short : 0 < length hints → length words < 2 ^ 26
  pub pairs : ArePairs v (bits_of words) hints

-- how many words the hints of both kinds take, of words with the given number of 1 bits; 2^26 words and more have none
abbrev pub hints_len : ℕ → ℕ → ℕ
hints_len ones words = if nat_lt words (2 ^ 26) then hint_words (min ones (64 * words)) + hint_words (64 * words - ones) else 0

-- how many they take at most, however many of the bits of these words are 1 bits
abbrev pub hints_room : ℕ → ℕ
hints_room words = if nat_lt words (2 ^ 26) then hint_words (64 * words) + 1 else 0

-- the hints of the 1 bits, and after them those of the 0 bits, of words with the given number of 1 bits; there may be none
pub record Lead (ones : ℕ) (all words : List ℕ) : Type 0 where
  pub of_ones : AreHints true words (take (hint_words ones) all)
  pub of_zeros : AreHints false words (drop (hint_words ones) all)

-- what a selection by a hint reads at most
abbrev pub by_hint : Lists → ReadCounts
by_hint lists = record { words = 17; upper = digit_count (length lists.upper) + 1; lower = 23 }
