-- What the definitions say of one another. Each law is the contract of a function of `laws`.
use Rattle.std.specs.Prelude.{◌≡◌, ℕ, ◌+◌, ◌-◌, ◌*◌, ◌^◌, ◌<◌, ◌≤◌, ◌↔◌, Bool, true, if◌then◌else◌, List, [], ◌∷◌, ◌++◌, length, slice_index, Option}
use Rattle.std.specs.List.Sorted.{IsStrictlyIncreasing}
use Rattle.bit_lists.specs.Bits.{bits_of, item, digit_count}
use Rattle.bit_lists.specs.Coming.{bits_coming}
use Rattle.bit_lists.specs.Count.{ones_before, ones_of, zeros_before, zeros_of, count_before, IsSelect, MatchesFirstOne, Picks, is_same, bit_positions}
use Rattle.bit_lists.specs.Number.{number_at, with_number, with_swapped}
use Rattle.bit_lists.specs.Window.{with_flips}

-- ---- numbers

-- what was written is what is read
abbrev pub ReadAfterWrite : Type 0
ReadAfterWrite =
    (b : List Bool) (begin len v : ℕ) → begin + len ≤ length b → v < 2 ^ len → number_at (with_number b begin len v) begin len ≡ v

-- to negate twice is to leave
abbrev pub NegatedTwice : Type 0
NegatedTwice = (b : List Bool) (begin len v : ℕ) → begin ≤ length b → with_flips (with_flips b begin len v) begin len v ≡ b

-- to swap twice is to leave
abbrev pub SwappedTwice : Type 0
SwappedTwice =
    (b : List Bool) (i j width : ℕ) → i * width + width ≤ length b → j * width + width ≤ length b
    → with_swapped (with_swapped b i j width) i j width ≡ b

-- to swap a fragment with itself is to leave
abbrev pub SwappedWithItself : Type 0
SwappedWithItself = (b : List Bool) (i width : ℕ) → i * width + width ≤ length b → with_swapped b i i width ≡ b

-- n has at most k digits exactly where it is below 2 ^ k
abbrev pub DigitsBoundPowers : Type 0
DigitsBoundPowers = (n k : ℕ) → (digit_count n ≤ k) ↔ (n < 2 ^ k)

-- ---- counts

-- each item before a position is a one or a zero
abbrev pub OnesAndZeros : Type 0
OnesAndZeros = (b : List Bool) (i : ℕ) → i ≤ length b → ones_before b i + zeros_before b i ≡ i

-- each bit of words is a 1 bit or a 0 bit
abbrev pub OnesAndZerosOfContent : Type 0
OnesAndZerosOfContent =
    (words : List ℕ)
    → ones_of (bits_of words) + zeros_of (bits_of words) ≡ 64 * length words

-- no fewer items of a kind stand before a later position
abbrev pub CountsGrow : Type 0
CountsGrow = (b : List Bool) (v : Bool) (i j : ℕ) → i ≤ j → count_before b v i ≤ count_before b v j

-- there is one more after an item of the kind, and none more after one of the other
abbrev pub CountAfterItem : Type 0
CountAfterItem =
    (b : List Bool) (v : Bool) (i : ℕ) → i < length b
    → count_before b v (i + 1) ≡ count_before b v i + (if is_same v (item b i) then 1 else 0)

-- no items stand before the first position
abbrev pub NoneBeforeTheFirst : Type 0
NoneBeforeTheFirst = (b : List Bool) (v : Bool) → count_before b v 0 ≡ 0

-- ---- what a rank picks

-- no two positions are picked for one rank
abbrev pub AtMostOnePicked : Type 0
AtMostOnePicked = (b : List Bool) (v : Bool) (r p q : ℕ) → Picks b v r p → Picks b v r q → p ≡ q

-- some position is picked for each rank below the count
abbrev pub OnePickedForEachRank : Type 0
OnePickedForEachRank = (b : List Bool) (v : Bool) (r : ℕ) → r < count_before b v (length b) → (p : ℕ) × Picks b v r p

-- no position is picked exactly for the ranks from the count on
abbrev pub NonePickedFromTheCountOn : Type 0
NonePickedFromTheCountOn =
    (b : List Bool) (v : Bool) (r : ℕ) → (count_before b v (length b) ≤ r) ↔ ((p : ℕ) → ¬ (Picks b v r p))

-- the rank of what a rank picks is that rank
abbrev pub RankOfPicked : Type 0
RankOfPicked = (b : List Bool) (v : Bool) (r p : ℕ) → Picks b v r p → count_before b v p ≡ r

-- the rank of a position picks that position and no other
abbrev pub PickedByRank : Type 0
PickedByRank =
    (b : List Bool) (v : Bool) (p : ℕ) → p < length b → item b p ≡ v
    → Picks b v (count_before b v p) p × ((q : ℕ) → Picks b v (count_before b v p) q → q ≡ p)

-- the rank of a position selects the first one from there on
abbrev pub NextOneIsSelected : Type 0
NextOneIsSelected = (b : List Bool) (s : ℕ) (o : Option ℕ) → s ≤ length b → IsSelect b true (ones_before b s) o → MatchesFirstOne b s o

-- ---- the positions of a kind

-- the positions rise strictly
abbrev pub PositionsRise : Type 0
PositionsRise = (b : List Bool) (v : Bool) → IsStrictlyIncreasing (bit_positions v 0 b)

-- item k of the positions is what rank k picks
abbrev pub PositionsArePicked : Type 0
PositionsArePicked = (b : List Bool) (v : Bool) (k : ℕ) → k < length (bit_positions v 0 b) → Picks b v k (slice_index (bit_positions v 0 b) k)

-- there are as many positions as bits of the kind
abbrev pub PositionsAreCounted : Type 0
PositionsAreCounted = (b : List Bool) (v : Bool) → length (bit_positions v 0 b) ≡ count_before b v (length b)

-- ---- the bits of a range

-- the range of all bits has all bits
abbrev pub AllBitsCome : Type 0
AllBitsCome = (words : List ℕ) → bits_coming words 0 (64 * length words) ≡ bits_of words

-- no bit comes of a range without positions, reversed or not
abbrev pub NoBitsCome : Type 0
NoBitsCome = (words : List ℕ) (start end : ℕ) → end ≤ start → bits_coming words start end ≡ []

-- the bit at the start, and then those of the range after it
abbrev pub BitsComeFromTheFront : Type 0
BitsComeFromTheFront =
    (words : List ℕ) (start end : ℕ) → start < end → end ≤ 64 * length words
    → bits_coming words start end ≡ item (bits_of words) start ∷ bits_coming words (start + 1) end

-- the bits of the range before its last position, and then the bit there
abbrev pub BitsComeFromTheBack : Type 0
BitsComeFromTheBack =
    (words : List ℕ) (start end : ℕ) → start < end → end ≤ 64 * length words
    → bits_coming words start end ≡ bits_coming words start (end - 1) ++ item (bits_of words) (end - 1) ∷ []

-- what came from the front, what is left, and what came from the back are the bits of the range, each once
abbrev pub EachBitOnce : Type 0
EachBitOnce =
    (words : List ℕ) (start i j end : ℕ) → start ≤ i → i ≤ j → j ≤ end
    → bits_coming words start end ≡ bits_coming words start i ++ (bits_coming words i j ++ bits_coming words j end)
