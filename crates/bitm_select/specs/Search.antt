-- The bits that a search looks at, and where the tables claim that the 1 bit of a rank is.
use Rattle.std.specs.Prelude.{◌≡◌, ℕ, ◌+◌, ◌*◌, ◌^◌, ◌<◌, ◌≤◌, Bool, if◌then◌else◌, List, length, slice_index}
use Rattle.bit_lists.specs.Bits.{bits_of}
use Rattle.bit_lists.specs.Count.{ones_before, as_bit}
use Rattle.bit_lists.specs.Number.{number_at}
use Rattle.bitm_tables.specs.Entry.{before_in_part, lower_entry}
pub use Rattle.bitm_tables.specs.Entry.{entries_from, negation, padded_bits}
use Rattle.bitm_tables.specs.Tables.{HasTables, Lists}
use Rattle.bitm_select.specs.Claims.{claimed_entry}
use Rattle.bitm_select.specs.declared.search.entry_range.EntryRange.{EntryRange}

-- the bits of which 1 bits are sought: the padded bits, all negated where v is false, so that a missing bit of the last
-- entry counts as a 0 bit
abbrev pub sought_bits : Bool → List Bool → List Bool
sought_bits v b = if v then padded_bits b else negation (padded_bits b)

-- the bits of words of which 1 bits are sought: negated for 0, as they are for each other number
abbrev pub sought_in : ℕ → List ℕ → List Bool
sought_in bit words = sought_bits (as_bit bit) (bits_of words)

-- k is one of n indices, its count is at most r, and the count of the next one is above r; where counts rise, it is the
-- last such index
pub record IsLastWithin (count : ℕ → ℕ) (n r k : ℕ) : Type 0 where
  pub inside : k < n
  pub at_most : count k ≤ r
  pub next : k + 1 < n → r < count (k + 1)

-- a search, among n counts that rise, for the last that is at most r: it is among the `left` counts from low on
pub record Between (count : ℕ → ℕ) (n r low left : ℕ) : Type 0 where
  pub some : 0 < left
  pub bound : low + left ≤ n
  pub at_most : count low ≤ r
  pub above : low + left < n → r < count (low + left)

-- none of eight counts is more than a later one
abbrev pub CountsRise : List ℕ → Type 0
CountsRise counts = (i j : ℕ) → i ≤ j → j < 8 → slice_index counts i ≤ slice_index counts j

-- the number of 1 bits before each of the eight words from word `first` on, counted from the first bit of that word
abbrev pub AreOnesToWords : List Bool → ℕ → List ℕ → Type 0
AreOnesToWords m first counts = (k : ℕ) → k < 8 → ones_before m (64 * first) + slice_index counts k ≡ ones_before m (64 * (first + k))

-- the last upper block with at most r 1 bits before it
abbrev pub IsLastPart : List Bool → ℕ → ℕ → ℕ → Type 0
IsLastPart m parts r part = IsLastWithin (λ k. ones_before m (k * 2 ^ 32)) parts r part

-- the last upper block with at most r bits of the kind before it, where rank r becomes rest
pub record IsPartOf (bit : ℕ) (lists : Lists) (r part rest : ℕ) : Type 0 where
  pub last : IsLastPart (sought_in bit lists.words) (length lists.upper) (ones_before (sought_in bit lists.words) (part * 2 ^ 32) + rest) part
  pub total : ones_before (sought_in bit lists.words) (part * 2 ^ 32) + rest ≡ r

-- entry j of an upper block, counted from the first entry of all
abbrev pub entry_in : ℕ → ℕ → ℕ
entry_in part j = part * 2 ^ 21 + j

-- the last entry of a part with no more than r ones before it in the part
abbrev pub IsLastEntry : List Bool → ℕ → ℕ → ℕ → ℕ → Type 0
IsLastEntry m entries part r e = IsLastWithin (λ j. before_in_part m (entry_in part j)) (entries_from entries part) r e

-- the number of bits of the kind in an upper block before the entry after entry e; 2^62 and more say nothing
abbrev pub IsCountAbove : ℕ → Lists → ℕ → ℕ → ℕ → Type 0
IsCountAbove bit lists part e above = above < 2 ^ 62 → (e + 1 < entries_from (length lists.lower) part)
    × (above ≡ before_in_part (sought_in bit lists.words) (entry_in part (e + 1)))

-- the last entry of an upper block with at most r 1 bits before it there is among the `left` entries from low on
abbrev pub IsEntryAmong : List Bool → ℕ → ℕ → ℕ → ℕ → ℕ → Type 0
IsEntryAmong m entries part r low left = Between (λ j. before_in_part m (part * 2 ^ 21 + j)) (entries_from entries part) r low left

-- IsEntryAmong in the sought bits of the words of lists
abbrev pub IsAmongIn : ℕ → Lists → ℕ → ℕ → ℕ → ℕ → Type 0
IsAmongIn bit lists part r low left = IsEntryAmong (sought_in bit lists.words) (length lists.lower) part r low left

-- what a search for the last entry of an upper block with at most r bits of the kind before it there finds: an entry of
-- the upper block and what the table claims that it packs; where the tables are those of the words, the right entry
pub record IsLastFound (bit : ℕ) (lists : Lists) (part r : ℕ) (found : ℕ × ℕ) : Type 0 where
  pub inside : found.0 < entries_from (length lists.lower) part
  pub last : HasTables lists → IsLastEntry (sought_in bit lists.words) (length lists.lower) part r found.0
  pub entry : HasTables lists → found.1 ≡ lower_entry (sought_in bit lists.words) (entry_in part found.0)
  pub claimed : found.1 ≡ claimed_entry (as_bit bit) lists (entry_in part found.0)

-- a range of the entries of an upper block, and what the table claims that its first entry packs, unless that is the
-- first of the upper block; where the tables are those of the words, the last entry with at most r bits of the kind
-- before it there is in the range
pub record IsRange (bit : ℕ) (lists : Lists) (part r : ℕ) (range : EntryRange) : Type 0 where
  pub some : 0 < range.left
  pub within : range.low + range.left ≤ entries_from (length lists.lower) part
  pub among : HasTables lists → IsEntryAmong (sought_in bit lists.words) (length lists.lower) part r range.low range.left
  pub packed : 0 < range.low → range.packed ≡ claimed_entry (as_bit bit) lists (entry_in part range.low)

-- the number of sought bits in an upper block before its entry j
abbrev pub items_to : ℕ → List Bool → ℕ → ℕ → ℕ
items_to bit b part j = before_in_part (sought_bits (as_bit bit) b) (entry_in part j)

-- w is word k of the bits: 64 of them as a number, lowest first
abbrev pub IsWord : List Bool → ℕ → ℕ → Type 0
IsWord m k w = w ≡ number_at m (64 * k) 64
