-- The two tables of a bit vector, as counts of its bits.
use Rattle.std.specs.Prelude.{◌≡◌, ℕ, ◌*◌, ◌^◌, Bool, List, map, length}
use Rattle.std.specs.Int.{div_ceil}
use Rattle.std.specs.List.{range_with_len}
use Rattle.bit_lists.specs.Bits.{bits_of, IsShort}
use Rattle.bit_lists.specs.Count.{ones_before}
use Rattle.bitm_tables.specs.Entry.{lower_entry}

-- the number of 1 bits before each upper block of 2^32 bits, of which the last may be partial
unfoldable pub upper_of : List Bool → List ℕ
upper_of b = map (λ k. ones_before b (k * 2 ^ 32)) (range_with_len 0 (div_ceil (length b) (2 ^ 32)))

-- one entry for each lower block of 2048 bits, of which the last may be partial
unfoldable pub lower_of : List Bool → List ℕ
lower_of b = map (lower_entry b) (range_with_len 0 (div_ceil (length b) 2048))

-- the two lists are the tables of the bits b
pub record AreTablesOf (b : List Bool) (upper lower : List ℕ) : Type 0 where
  pub upper_is : upper ≡ upper_of b
  pub lower_is : lower ≡ lower_of b

-- the words of a bit vector and two tables
pub record Lists : Type 0 where
  pub words : List ℕ
  pub upper : List ℕ
  pub lower : List ℕ

-- the tables are those of the words
abbrev pub HasTables : Lists → Type 0
HasTables lists = AreTablesOf (bits_of lists.words) lists.upper lists.lower

-- the bits of the words
abbrev pub bits_in : Lists → List Bool
bits_in lists = bits_of lists.words

-- the tables are those of the words, which are few enough for an index
pub record IsIndexed (lists : Lists) : Type 0 where
  pub tables : HasTables lists
  pub short : IsShort lists.words

-- few enough words for an index, and tables of the right lengths, which may hold anything
pub record HasSizes (lists : Lists) : Type 0 where
  pub short : IsShort lists.words
  pub upper_len : length lists.upper ≡ div_ceil (length lists.words) (2 ^ 26)
  pub lower_len : length lists.lower ≡ div_ceil (length lists.words) 32
