-- What was read, added up.
use Rattle.std.proofs.Common.{ℕ, ◌+◌, ◌≤◌, arith}
use Rattle.digits.specs.Reads.{DigitReadsAtMost}
use Rattle.digits.specs.declared.source.counts.DigitReads.{DigitReads}
use Rattle.digit_levels.specs.Reads.{DigitReadsExactly}

pub reads-none : (r : DigitReads) (a b : ℕ) → DigitReadsAtMost r r a b
reads-none r a b = record { lines = omega arith; numbers = omega arith; lines_kept = omega arith; numbers_kept = omega arith }

-- one after another
pub reads-more : (early mid late : DigitReads) (a b c d e f : ℕ) → DigitReadsAtMost early mid a b → DigitReadsAtMost mid late c d
    → a + c ≤ e → b + d ≤ f → DigitReadsAtMost early late e f
reads-more early mid late a b c d e f one two lines numbers =
    record {
      lines = omega (arith, one.lines, two.lines, lines);
      numbers = omega (arith, one.numbers, two.numbers, numbers);
      lines_kept = omega (arith, one.lines_kept, two.lines_kept);
      numbers_kept = omega (arith, one.numbers_kept, two.numbers_kept);
    }

pub reads-exact : (early late : DigitReads) (k : ℕ) → DigitReadsExactly early late k → DigitReadsAtMost early late k k
reads-exact early late k r =
    record {
      lines = omega (arith, r.lines);
      numbers = omega (arith, r.numbers);
      lines_kept = omega (arith, r.lines);
      numbers_kept = omega (arith, r.numbers);
    }
