-- The bits of words up to a length that is no multiple of 64.
use Rattle.std.specs.Prelude.{◌≡◌, ℕ, ◌<◌, ◌≤◌, ◌⊎◌, Bool, List, length, take}
use Rattle.bit_lists.specs.Bits.{item}
use Rattle.bitm_tables.specs.Tables.{HasSizes, Lists, bits_in}
use Rattle.bitm_select.specs.Claims.{ClaimsNone}
use Rattle.tables_view.specs.Samples.{not_sampled, SampleLists}

-- words and their tables, how many of the bits belong to the bit vector, and the samples of 1 bits and of 0 bits
pub record Cut : Type 0 where
  pub lists : Lists
  pub len : ℕ
  pub ones : SampleLists
  pub zeros : SampleLists

-- words with tables, and the length of the bit vector, without samples
abbrev pub cut_at : Lists → ℕ → Cut
cut_at lists len = record { lists = lists; len = len; ones = not_sampled; zeros = not_sampled }

-- the bits of the bit vector
abbrev pub bits_of_cut : Cut → List Bool
bits_of_cut c = take c.len (bits_in c.lists)

-- the words have at least that length in bits
abbrev pub IsWithin : Cut → Type 0
IsWithin c = c.len ≤ length (bits_in c.lists)

-- the lengths of lists are right, and the words have at least n bits
pub record AreListsSized (lists : Lists) (n : ℕ) : Type 0 where
  pub sizes : HasSizes lists
  pub within : n ≤ length (bits_in lists)

-- those of a view, whatever samples it has
abbrev pub IsSizedCut : Cut → Type 0
IsSizedCut c = AreListsSized c.lists c.len

-- a list has an item v from index n on
pub record HasItemFrom (v : Bool) (b : List Bool) (n : ℕ) : Type 0 where
  pub position : ℕ
  pub behind : n ≤ position
  pub inside : position < length b
  pub bit : item b position ≡ v

-- the words have a bit v after the bit vector
abbrev pub HasBitBehind : Bool → Cut → Type 0
HasBitBehind v c = HasItemFrom v (bits_in c.lists) c.len

-- tables and words claim at most r bits v in all, or the words have one after the bit vector
abbrev pub ClaimsNoneOf : Bool → Cut → ℕ → Type 0
ClaimsNoneOf v c r = ClaimsNone v c.lists r ⊎ HasBitBehind v c
