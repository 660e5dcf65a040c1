-- What was read of a source: one for each call that reads, by the kind of item.
use Rattle.std.specs.Prelude.{◌≡◌, ℕ, ◌+◌, ◌≤◌}
use Rattle.bitm_tables.specs.Tables.{Lists}
use Rattle.bitm_tables.specs.declared.source.counts.ReadCounts.{ReadCounts}

-- nothing was read
abbrev pub none_read : ReadCounts
none_read = record { words = 0; upper = 0; lower = 0 }

-- one more word was read
abbrev pub word_read : ReadCounts → ReadCounts
word_read reads = record reads { words = reads.words + 1 }

-- one more upper entry was read
abbrev pub upper_read : ReadCounts → ReadCounts
upper_read reads = record reads { upper = reads.upper + 1 }

-- one more lower entry was read
abbrev pub lower_read : ReadCounts → ReadCounts
lower_read reads = record reads { lower = reads.lower + 1 }

-- between early and late at most the given numbers of upper entries, lower entries and words were read, and no count
-- fell
pub record ReadsAtMost (early late : ReadCounts) (uppers lowers words_read : ℕ) : Type 0 where
  pub upper : late.upper ≤ early.upper + uppers
  pub lower : late.lower ≤ early.lower + lowers
  pub words : late.words ≤ early.words + words_read
  pub upper_kept : early.upper ≤ late.upper
  pub lower_kept : early.lower ≤ late.lower
  pub words_kept : early.words ≤ late.words

-- a call only read: at most the given numbers of upper entries, lower entries and words, and the lists of the source
-- are unchanged
pub record OnlyReads {S : Type 0} (lists_of : S → Lists) (reads_of : S → ReadCounts) (old new : S) (uppers lowers words_read : ℕ)
    : Type 0 where
  pub at_most : ReadsAtMost (reads_of old) (reads_of new) uppers lowers words_read
  pub same : lists_of new ≡ lists_of old

-- what a source over slices is seen as
pub record Probed : Type 0 where
  pub lists : Lists
  pub reads : ReadCounts
