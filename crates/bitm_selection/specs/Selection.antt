-- What calls read that select among the bits of a source.
use Rattle.std.specs.Prelude.{ℕ, ◌+◌, ◌*◌, length}
use Rattle.bit_lists.specs.Bits.{digit_count}
use Rattle.bitm_tables.specs.declared.source.counts.ReadCounts.{ReadCounts}
use Rattle.bitm_tables.specs.Reads.{OnlyReads}
use Rattle.bitm_tables.specs.Tables.{Lists}

-- what a selection by binary search reads at most
abbrev pub by_halves : Lists → ReadCounts
by_halves lists = record { words = 8; upper = digit_count (length lists.upper) + 1; lower = 23 }

-- a call only read, what at most k selections read that each read no more than `each`, and w words
abbrev pub OnlySelectsBy : {S : Type 0} → (S → Lists) → (S → ReadCounts) → S → S → ReadCounts → ℕ → ℕ → Type 0
OnlySelectsBy lists_of reads_of old new each k w =
    OnlyReads lists_of reads_of old new (k * each.upper) (k * each.lower) (k * each.words + w)
