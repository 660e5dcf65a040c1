use Rattle.std.proofs.Common.{◌≡◌, ℕ, ◌+◌, ◌*◌, ◌<◌, ◌≤◌, slice_index}
use Rattle.digits.specs.Digits.{digits_of}
use Rattle.digits.specs.Tables.{counts_between}
use Rattle.digits.proofs.checking.counts_of_lines.Given as goal

-- the lines so far hold their counts
abbrev pub invariant-loop-line : goal.invariant-loop-line
invariant-loop-line l =
    let xs = digits_of l.lines in
    record {
      before : l.before ≡ counts_between xs (224 * l.first) (224 * l.line);
      counts : (k : ℕ) → l.first ≤ k → k < l.line → slice_index l.lines (8 * k) ≡ counts_between xs (224 * l.first) (224 * k + 128);
    }
