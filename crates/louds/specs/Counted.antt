-- A tree in the words of a source whose reads are counted.
use Rattle.std.specs.Prelude.{ℕ, List}
use Rattle.bitm_tables.specs.declared.source.counts.ReadCounts.{ReadCounts}
use Rattle.bitm_tables.specs.Tables.{IsIndexed, Lists, bits_in}
use Rattle.bitm_selection.specs.Selection.{by_halves, OnlySelectsBy}
use Rattle.louds.specs.Held.{IsHeld, degrees_of}

-- the degrees of the n nodes that the words hold
abbrev pub degrees_in : ℕ → Lists → List ℕ
degrees_in n lists = degrees_of (bits_in lists) n

-- the words hold a tree of n nodes, and the tables are those of the words
pub record IsLouds (n : ℕ) (lists : Lists) : Type 0 where
  pub indexed : IsIndexed lists
  pub held : IsHeld (degrees_in n lists) n (bits_in lists)

-- a call only read, what at most k selections by binary search read, and w words
abbrev pub OnlySelects : {S : Type 0} → (S → Lists) → (S → ReadCounts) → S → S → ℕ → ℕ → Type 0
OnlySelects lists_of reads_of old new k w = OnlySelectsBy lists_of reads_of old new (by_halves (lists_of old)) k w
