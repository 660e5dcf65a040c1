-- What the definitions say of one another. Each law is the contract of a function of `laws`.
use Rattle.std.specs.Prelude.{◌≡◌, ℕ, ◌+◌, ◌*◌, ◌<◌, ◌≤◌, ◌↔◌, true, List, length, slice_index}
use Rattle.std.specs.List.Sorted.{IsNonDecreasing}
use Rattle.bit_lists.specs.Bits.{bits_of}
use Rattle.bit_lists.specs.Count.{ones_before, Picks}
use Rattle.elias_fano.specs.Parts.{upper_position, width_of, low_words_of, upper_words_of, IsUpper, ArePartsOf, items_of}
use Rattle.elias_fano.specs.Sequence.{Reaches}

-- ---- sequences

-- an item is at least v exactly from the first such position on
abbrev pub ReachedFromThere : Type 0
ReachedFromThere =
    (xs : List ℕ) (v i j : ℕ) → IsNonDecreasing xs → Reaches xs v i → j < length xs → (v ≤ slice_index xs j) ↔ (i ≤ j)

-- the first position that reaches an item is the least position of an item equal to it
abbrev pub FirstOfEqual : Type 0
FirstOfEqual =
    (xs : List ℕ) (i k : ℕ) → IsNonDecreasing xs → i < length xs → Reaches xs (slice_index xs i) k
    → (slice_index xs k ≡ slice_index xs i) × ((j : ℕ) → slice_index xs j ≡ slice_index xs i → j < length xs → k ≤ j)

-- ---- the two vectors

-- the upper vector has as many ones as there are items
abbrev pub OneForEachItem : Type 0
OneForEachItem =
    (xs : List ℕ) (l : ℕ) (upper : List ℕ) → IsUpper xs l upper → ones_before (bits_of upper) (length (bits_of upper)) ≡ length xs

-- rank i picks the position of item i there
abbrev pub ItemsArePicked : Type 0
ItemsArePicked =
    (xs : List ℕ) (l : ℕ) (upper : List ℕ) (i p : ℕ) → IsUpper xs l upper → i < length xs
    → Picks (bits_of upper) true i p → p ≡ upper_position xs l i

-- the parts of a sequence hold its items and no others
abbrev pub PartsHoldItems : Type 0
PartsHoldItems = (xs : List ℕ) (n l : ℕ) (low upper : List ℕ) → ArePartsOf xs n l low upper → items_of n l low upper ≡ xs

-- the two vectors of n items with l low digits have n * (l + 3) + 126 bits at most
abbrev pub PartsAreSmall : Type 0
PartsAreSmall =
    (xs : List ℕ) → 64 * (low_words_of xs (width_of xs) + upper_words_of xs (width_of xs)) ≤ length xs * (width_of xs + 3) + 126
