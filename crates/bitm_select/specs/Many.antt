-- Many queries at once: each answer by its query, and how far the queries of a group have come.
use Rattle.std.specs.Prelude.{◌≡◌, ℕ, ◌+◌, ◌-◌, ◌*◌, ◌/◌, ◌%◌, ◌^◌, ◌<◌, ◌≤◌, Bool, List, length, slice_index, slice_index_or}
use Rattle.bit_lists.specs.Count.{as_bit, ones_before, Picks}
use Rattle.bitm_tables.specs.Entry.{before_in_part, entries_from, less}
use Rattle.bitm_select.specs.Search.{entry_in, sought_in, IsLastPart, IsWord}
use Rattle.bitm_tables.specs.Tables.{HasTables, Lists}
use Rattle.bitm_select.specs.Claims.{claimed_entry, claimed_part, claimed_to}
use Rattle.bitm_select.specs.declared.many.loaded.InRecord.{InRecord}
use Rattle.bitm_select.specs.declared.many.query.Query.{Query}
use Rattle.bitm_select.specs.declared.many.ranks.Begun.{Begun}

-- rank k is the number of 1 bits before index k
abbrev pub RanksEach : List Bool → List ℕ → List ℕ → Type 0
RanksEach b indices ranks = (k : ℕ) → k < length indices → slice_index ranks k ≡ ones_before b (slice_index indices k)

-- position k is that of the bit v with rank k
abbrev pub PicksEach : List Bool → Bool → List ℕ → List ℕ → Type 0
PicksEach b v ranks positions = (k : ℕ) → k < length ranks → Picks b v (slice_index ranks k) (slice_index positions k)

-- the sought bit of this rank is in the last upper block with at most that many such bits before it, and has rank rest
-- there; the last entry of the upper block with at most rest such bits before it is among the 2^size from entry `at` on
pub record IsNarrowed (bit : ℕ) (lists : Lists) (rank rest at size : ℕ) : Type 0 where
  pub part : ℕ
  pub low : ℕ
  pub position : at ≡ entry_in part low
  pub last : IsLastPart (sought_in bit lists.words) (length lists.upper) rank part
  pub total : rank ≡ ones_before (sought_in bit lists.words) (part * 2 ^ 32) + rest
  pub inside : low < entries_from (length lists.lower) part
  pub at_most : before_in_part (sought_in bit lists.words) (entry_in part low) ≤ rest
  pub next : low + 2 ^ size < entries_from (length lists.lower) part
      → rest < before_in_part (sought_in bit lists.words) (entry_in part (low + 2 ^ size))
  pub room : low + 2 ^ size ≤ 2 ^ 21

-- a query, with 2^size entries left, is in an upper block, and its rest is the rank there by what the upper table
-- claims
pub record IsInPart (v : Bool) (lists : Lists) (rank : ℕ) (query : Query) (size : ℕ) : Type 0 where
  pub part : ℕ
  pub there : part < length lists.upper
  pub from : part * 2 ^ 21 ≤ query.entry
  pub to : query.entry + 2 ^ size ≤ (part + 1) * 2 ^ 21
  pub fits : claimed_part v lists part < 2 ^ 64
  pub rest : query.rest ≡ less rank (claimed_part v lists part)

-- a query is at an entry of an upper block, and where the tables are those of the words it is on its way to the bit of
-- the rank
pub record IsSearch (bit : ℕ) (lists : Lists) (rank : ℕ) (query : Query) (size : ℕ) : Type 0 where
  pub entry : query.entry < length lists.lower
  pub in_part : IsInPart (as_bit bit) lists rank query size
  pub near : HasTables lists → IsNarrowed bit lists rank query.rest query.entry size

-- query k is that of rank k
pub record AreSearches (bit : ℕ) (lists : Lists) (ranks : List ℕ) (queries : List Query) (size : ℕ) : Type 0 where
  pub enough : length ranks ≤ length queries
  pub each : (k : ℕ) (d : Query) → k < length ranks → IsSearch bit lists (slice_index ranks k) (slice_index_or queries k d) size

-- a search of which all the entries that are left exist, whatever the tables hold
pub record IsInside (bit : ℕ) (lists : Lists) (rank : ℕ) (query : Query) (size : ℕ) : Type 0 where
  pub search : IsSearch bit lists rank query size
  pub inside : query.entry + 2 ^ size < length lists.lower

pub record AreInside (bit : ℕ) (lists : Lists) (ranks : List ℕ) (queries : List Query) (size : ℕ) : Type 0 where
  pub enough : length ranks ≤ length queries
  pub each : (k : ℕ) (d : Query) → k < length ranks → IsInside bit lists (slice_index ranks k) (slice_index_or queries k d) size

-- a basic block is block k of an entry, and its rest is the rank there by what the tables claim, as a number of 64 bits
pub record IsClaimedRecord (v : Bool) (lists : Lists) (rank : ℕ) (at : InRecord) : Type 0 where
  pub part : ℕ
  pub entry : ℕ
  pub k : ℕ
  pub there : part < length lists.upper
  pub inside : entry < length lists.lower
  pub from : part * 2 ^ 21 ≤ entry
  pub to : entry < (part + 1) * 2 ^ 21
  pub few : k < 4
  pub first : at.first ≡ entry * 32 + k * 8
  pub total : (claimed_part v lists part + claimed_to (claimed_entry v lists entry) k + at.rest) % 2 ^ 64 ≡ rank % 2 ^ 64

-- the sought bit of this rank, if there is one, is in the basic block from word first on and has rank rest there, if
-- the tables are those of the words; word is the first of the basic block
pub record IsInRecord (bit : ℕ) (lists : Lists) (rank : ℕ) (at : InRecord) : Type 0 where
  pub fits : at.first < 2 ^ 60
  pub claimed : IsClaimedRecord (as_bit bit) lists rank at
  pub word_is : at.first < length lists.words → IsWord (sought_in bit lists.words) at.first at.word
  pub total : HasTables lists → rank ≡ ones_before (sought_in bit lists.words) (64 * at.first) + at.rest
  pub next : HasTables lists → at.first + 8 < length lists.words → rank < ones_before (sought_in bit lists.words) (64 * (at.first + 8))

-- basic block k is that of rank k
pub record AreInRecords (bit : ℕ) (lists : Lists) (ranks : List ℕ) (records : List InRecord) : Type 0 where
  pub enough : length ranks ≤ length records
  pub each : (k : ℕ) (d : InRecord) → k < length ranks → IsInRecord bit lists (slice_index ranks k) (slice_index_or records k d)

-- what the rank up to bit `last` needs was read: the entry of that bit, the first word of its basic block, and its word
pub record IsBegunAt (lists : Lists) (last : ℕ) (begun : Begun) : Type 0 where
  pub entry : begun.entry ≡ slice_index lists.lower (last / 2048)
  pub first : begun.first ≡ slice_index lists.words (last / 512 * 8)
  pub word : begun.word ≡ slice_index lists.words (last / 64)

-- IsBegunAt of the last of the first `index` bits, if the words have it; its position is taken modulo 2^64, so that an
-- index of 0 gives one after all words
abbrev pub IsBegun : Lists → ℕ → Begun → Type 0
IsBegun lists index begun = (index + (2 ^ 64 - 1)) % 2 ^ 64 / 64 < length lists.words → IsBegunAt lists ((index + (2 ^ 64 - 1)) % 2 ^ 64) begun

-- the reads of rank k are done
pub record AreBegun (lists : Lists) (indices : List ℕ) (begun : List Begun) : Type 0 where
  pub enough : length indices ≤ length begun
  pub each : (k : ℕ) (d : Begun) → k < length indices → IsBegun lists (slice_index indices k) (slice_index_or begun k d)
