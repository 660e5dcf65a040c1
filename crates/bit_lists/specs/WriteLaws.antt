-- What the words, their zeros and a write mean for items, numbers and counts. Each law is the contract of a function of
-- `laws`.
use Rattle.std.specs.Prelude.{◌≡◌, ℕ, ◌+◌, ◌*◌, ◌/◌, ◌^◌, ◌<◌, ◌≤◌, ◌↔◌, ◌⊎◌, Bool, true, false, List, [], ◌∷◌, ◌++◌, length, slice_index, replicate, slice_set, if◌then◌else◌}
use Rattle.bit_lists.specs.Bits.{digit, bits_of, item}
use Rattle.bit_lists.specs.Count.{ones_before, zeros_before, count_before, bit_positions}
use Rattle.bit_lists.specs.Number.{number_at, with_number}

-- ---- words

-- a word has 64 bits
abbrev pub BitsAreCounted : Type 0
BitsAreCounted = (words : List ℕ) → length (bits_of words) ≡ 64 * length words

-- a position is inside exactly where its word is
abbrev pub PositionIsInside : Type 0
PositionIsInside = (words : List ℕ) (i : ℕ) → (i < length (bits_of words)) ↔ (i / 64 < length words)

-- word k is the number of its 64 bits
abbrev pub WordIsItsBits : Type 0
WordIsItsBits =
    (words : List ℕ) (k : ℕ) → k < length words → slice_index words k < 2 ^ 64
    → number_at (bits_of words) (64 * k) 64 ≡ slice_index words k

-- ---- zeros

-- words that are 0 have no ones
abbrev pub ZerosHaveNoOnes : Type 0
ZerosHaveNoOnes = (count i : ℕ) → item (bits_of (replicate count 0)) i ≡ false

-- so no ones are counted in them, and each position before i is that of a zero
abbrev pub ZerosAreCounted : Type 0
ZerosAreCounted =
    (count i : ℕ) → i ≤ 64 * count
    → (ones_before (bits_of (replicate count 0)) i ≡ 0) × (zeros_before (bits_of (replicate count 0)) i ≡ i)

-- items that are zeros are the number 0
abbrev pub ZerosAreZero : Type 0
ZerosAreZero =
    (b : List Bool) (begin len : ℕ) → ((i : ℕ) → begin ≤ i → i < begin + len → item b i ≡ false) → number_at b begin len ≡ 0

-- and so are no items
abbrev pub NoItemsAreZero : Type 0
NoItemsAreZero = (b : List Bool) (begin : ℕ) → number_at b begin 0 ≡ 0

-- ---- writes

-- a write leaves as many items
abbrev pub LengthIsKept : Type 0
LengthIsKept = (b : List Bool) (begin len v : ℕ) → begin + len ≤ length b → length (with_number b begin len v) ≡ length b

-- one bit written is that item set
abbrev pub OneBitIsSet : Type 0
OneBitIsSet = (b : List Bool) (i : ℕ) (bit : Bool) → i < length b → with_number b i 1 (if bit then 1 else 0) ≡ slice_set b i bit

-- item k of those that were written is digit k of the number
abbrev pub ItemIsWritten : Type 0
ItemIsWritten =
    (b : List Bool) (begin len v k : ℕ) → begin + len ≤ length b → k < len → item (with_number b begin len v) (begin + k) ≡ digit v k

-- an item beside what was written is as it was
abbrev pub ItemBesideIsKept : Type 0
ItemBesideIsKept =
    (b : List Bool) (begin len v i : ℕ) → begin + len ≤ length b → (i < begin) ⊎ (begin + len ≤ i)
    → item (with_number b begin len v) i ≡ item b i

-- and so is a number beside it
abbrev pub NumberBesideIsKept : Type 0
NumberBesideIsKept =
    (b : List Bool) (begin len v at width : ℕ) → begin + len ≤ length b → (at + width ≤ begin) ⊎ (begin + len ≤ at)
    → number_at (with_number b begin len v) at width ≡ number_at b at width

-- and so is a count up to where the write begins
abbrev pub CountBeforeIsKept : Type 0
CountBeforeIsKept =
    (b : List Bool) (begin len v : ℕ) (bit : Bool) (i : ℕ) → begin + len ≤ length b → i ≤ begin
    → count_before (with_number b begin len v) bit i ≡ count_before b bit i

-- after a zero that was made a one there is one one more, and one zero less
abbrev pub OneMoreIsSet : Type 0
OneMoreIsSet =
    (b : List Bool) (position i : ℕ) → position < i → i ≤ length b → item b position ≡ false
    → (ones_before (with_number b position 1 1) i ≡ ones_before b i + 1) × (zeros_before (with_number b position 1 1) i + 1 ≡ zeros_before b i)

-- after a one that was made a zero there is one one less, and one zero more
abbrev pub OneMoreIsCleared : Type 0
OneMoreIsCleared =
    (b : List Bool) (position i : ℕ) → position < i → i ≤ length b → item b position ≡ true
    → (ones_before (with_number b position 1 0) i + 1 ≡ ones_before b i) × (zeros_before (with_number b position 1 0) i ≡ zeros_before b i + 1)

-- a one that was written after all ones is the last of them
abbrev pub LastOneIsSet : Type 0
LastOneIsSet =
    (b : List Bool) (position : ℕ) → position < length b → ((i : ℕ) → position ≤ i → item b i ≡ false)
    → bit_positions true 0 (with_number b position 1 1) ≡ bit_positions true 0 b ++ position ∷ []
