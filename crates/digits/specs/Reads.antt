-- What was read of lines and their table.
use Rattle.std.specs.Prelude.{ℕ, ◌+◌, ◌≤◌, Some, None}
use Rattle.digits.specs.Tables.{DigitLists}
use Rattle.digits.specs.declared.source.counts.DigitReads.{DigitReads}

-- line k was opened, and no other is open
abbrev pub line_read : ℕ → DigitReads → DigitReads
line_read k reads = record reads { lines = reads.lines + 1; opened = Some k }

-- one more number of the table was read
abbrev pub number_read : DigitReads → DigitReads
number_read reads = record reads { numbers = reads.numbers + 1 }

-- nothing was read, and no line is open
abbrev pub no_digit_reads : DigitReads
no_digit_reads = record { lines = 0; numbers = 0; opened = None }

-- between early and late at most the given numbers of lines and of numbers were read, and neither count fell
pub record DigitReadsAtMost (early late : DigitReads) (lines_read numbers_read : ℕ) : Type 0 where
  pub lines : late.lines ≤ early.lines + lines_read
  pub numbers : late.numbers ≤ early.numbers + numbers_read
  pub lines_kept : early.lines ≤ late.lines
  pub numbers_kept : early.numbers ≤ late.numbers

-- what a source over slices is seen as
pub record DigitsProbed : Type 0 where
  pub lists : DigitLists
  pub reads : DigitReads
