-- What an iterator over the bits of words still gives.
use Rattle.std.specs.Prelude.{◌≡◌, ℕ, ◌+◌, ◌-◌, ◌*◌, Bool, true, if◌then◌else◌, nat_lt, List, ◌++◌, length, take, drop, zero, suc, Option}
use Rattle.std.specs.Iterator.{YieldsFirst, YieldsLast}
use Rattle.std.specs.Int.{bit_not, w64}
use Rattle.std.specs.declared.ops.Range.{Range}
use Rattle.bit_lists.specs.Bits.{low_digits, bits_of}
use Rattle.bit_lists.specs.Count.{bit_positions, as_bit}

-- a word in which the bits of the kind are ones
abbrev pub word_of_kind : ℕ → ℕ → ℕ
word_of_kind zero w = bit_not w64 w
word_of_kind (suc n) w = w

-- the positions of a kind that are still to come: of the ones left in the current word, whose first position is known, and of
-- the words after it
abbrev pub coming : ℕ → ℕ → ℕ → List ℕ → List ℕ
coming v first current rest = bit_positions true first (low_digits 64 current) ++ bit_positions (as_bit v) (first + 64) (bits_of rest)

-- the bits of a range of the words, none where it is reversed
unfoldable pub bits_coming : List ℕ → ℕ → ℕ → List Bool
bits_coming words start end = take (end - start) (drop start (bits_of words))

-- what an iterator over bits shows: the words that it reads, and the range that is left
pub record BitsLeft : Type 0 where
  pub bit_vec : List ℕ
  pub bit_range : Range ℕ

-- the words with all their bits left
abbrev pub all_bits_left : List ℕ → BitsLeft
all_bits_left words = record { bit_vec = words; bit_range = record { start = 0; end = 64 * length words } }

-- the bits that are still to come
abbrev pub bits_left : BitsLeft → List Bool
bits_left it = bits_coming it.bit_vec it.bit_range.start it.bit_range.end

-- the range without its first position, and the range itself where it has no position
abbrev pub without_first : BitsLeft → BitsLeft
without_first it =
    let start = it.bit_range.start in
    let end = it.bit_range.end in
    record it { bit_range = record { start = if nat_lt start end then start + 1 else start; end = end } }

-- what a step from the front gives, and what it leaves: also a range without positions
abbrev pub GivesFirst : BitsLeft → Option Bool → BitsLeft → Type 0
GivesFirst old given new = YieldsFirst bits_left old given new × (new ≡ without_first old)

-- the range without its last position, and the range itself where it has no position
abbrev pub without_last : BitsLeft → BitsLeft
without_last it =
    let start = it.bit_range.start in
    let end = it.bit_range.end in
    record it { bit_range = record { start = start; end = if nat_lt start end then end - 1 else end } }

-- what a step from the back gives, and what it leaves: also a range without positions
abbrev pub GivesLast : BitsLeft → Option Bool → BitsLeft → Type 0
GivesLast old given new = YieldsLast bits_left old given new × (new ≡ without_last old)
