-- What the definitions of tables and words say of one another. Each law is the contract of a function of `index_laws`.
use Rattle.std.specs.Prelude.{◌≡◌, ℕ, ◌^◌, ◌<◌, Bool, List, count_ones}
use Rattle.bit_lists.specs.Bits.{low_digits, IsShort}
use Rattle.bit_lists.specs.Count.{ones_before}
use Rattle.bitm_tables.specs.Entry.{FieldsFit, lower_entry}
use Rattle.bitm_tables.specs.Tables.{HasSizes, HasTables, Lists}

-- no field of an entry of a lower table exceeds its greatest value
abbrev pub EntriesFit : Type 0
EntriesFit = (b : List Bool) (j : ℕ) → FieldsFit (lower_entry b j) j

-- the tables of words that an index can have have the right lengths
abbrev pub TablesHaveSizes : Type 0
TablesHaveSizes = (l : Lists) → HasTables l → IsShort l.words → HasSizes l

-- the 1 bits that a processor counts in a word are those among its 64 bits
abbrev pub OnesOfWord : Type 0
OnesOfWord = (w : ℕ) → w < 2 ^ 64 → ones_before (low_digits 64 w) 64 ≡ count_ones w
