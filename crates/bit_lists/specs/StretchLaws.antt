-- What the definitions say of a range of items, of words after words, of equal items, and of lists that agree. Each law
-- is the contract of a function of `laws`.
use Rattle.std.specs.Prelude.{◌≡◌, ◌≢◌, ℕ, ◌+◌, ◌*◌, ◌/◌, ◌%◌, ◌<◌, ◌≤◌, ◌↔◌, Bool, not, List, ◌++◌, length, take, drop, count_by, slice_index}
use Rattle.bit_lists.specs.Bits.{bits_of, digit, item}
use Rattle.bit_lists.specs.Count.{count_before, is_same, Picks}
use Rattle.bit_lists.specs.Number.{with_number}

-- the n items from item k on
abbrev pub stretch : List Bool → ℕ → ℕ → List Bool
stretch b k n = take n (drop k b)

-- item i of a stretch is item k + i of the whole
abbrev pub ItemOfStretch : Type 0
ItemOfStretch = (b : List Bool) (k n i : ℕ) → i < n → item (stretch b k n) i ≡ item b (k + i)

-- the count before a position of a stretch, and the count before the stretch, are that before the position
abbrev pub CountInStretch : Type 0
CountInStretch =
    (b : List Bool) (v : Bool) (k n i : ℕ) → k + n ≤ length b → i ≤ n
    → count_before b v k + count_before (stretch b k n) v i ≡ count_before b v (k + i)

-- a position is picked in a stretch exactly where it is in the whole, by its rank and those before the stretch
abbrev pub PickedInStretch : Type 0
PickedInStretch =
    (b : List Bool) (v : Bool) (k n r p : ℕ) → k + n ≤ length b → p < n
    → Picks (stretch b k n) v r p ↔ Picks b v (count_before b v k + r) (k + p)

-- ones and zeros are counted alike: the items that are the same as v
abbrev pub CountIsOfSame : Type 0
CountIsOfSame = (b : List Bool) (v : Bool) (i : ℕ) → count_before b v i ≡ count_by (is_same v) (take i b)

-- a rank between those of two positions picks a position between them
abbrev pub PickedBetween : Type 0
PickedBetween =
    (b : List Bool) (v : Bool) (from to r p : ℕ) → count_before b v from ≤ r → r < count_before b v to → Picks b v r p
    → (from ≤ p) × (p < to)

-- among n equal items each counts for its kind
abbrev pub EqualItemsCount : Type 0
EqualItemsCount =
    (b : List Bool) (v : Bool) (p n : ℕ) → p + n ≤ length b → ((i : ℕ) → p ≤ i → i < p + n → item b i ≡ v)
    → count_before b v (p + n) ≡ count_before b v p + n

-- and none for the other
abbrev pub EqualItemsCountForOne : Type 0
EqualItemsCountForOne =
    (b : List Bool) (v : Bool) (p n : ℕ) → p + n ≤ length b → ((i : ℕ) → p ≤ i → i < p + n → item b i ≡ v)
    → count_before b (not v) (p + n) ≡ count_before b (not v) p

-- where items agree up to a position, so do the counts before it
abbrev pub CountsAgree : Type 0
CountsAgree =
    (b c : List Bool) (v : Bool) (k : ℕ) → k ≤ length b → k ≤ length c → ((i : ℕ) → i < k → item b i ≡ item c i)
    → count_before b v k ≡ count_before c v k

-- the bits of words after words
abbrev pub BitsAreJoined : Type 0
BitsAreJoined = (first second : List ℕ) → bits_of (first ++ second) ≡ bits_of first ++ bits_of second

-- bit i of words is digit i mod 64 of word i / 64
abbrev pub BitIsDigit : Type 0
BitIsDigit = (words : List ℕ) (i : ℕ) → i < 64 * length words → item (bits_of words) i ≡ digit (slice_index words (i / 64)) (i % 64)

-- a bit that was written is the number's lowest digit, and each other item is as it was
abbrev pub ItemAfterWrite : Type 0
ItemAfterWrite =
    (b : List Bool) (i v : ℕ) → i < length b
    → (item (with_number b i 1 v) i ≡ digit v 0) × ((q : ℕ) → q ≢ i → item (with_number b i 1 v) q ≡ item b q)
