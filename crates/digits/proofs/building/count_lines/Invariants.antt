use Rattle.std.proofs.Common.{◌≡◌, ℕ, ◌+◌, ◌*◌, ◌<◌, ◌≤◌, length, slice_index}
use Rattle.digits.specs.Digits.{digits_of}
use Rattle.digits.specs.Tables.{counts_between}
use Rattle.digits.proofs.building.count_lines.Given as goal

-- the digits are the same; the lines so far have their counts
abbrev pub invariant-loop-line : goal.invariant-loop-line
invariant-loop-line l =
    let old = l.fn.lines in
    let xs = digits_of old in
    record {
      len : length l.lines ≡ length old;
      digits : digits_of l.lines ≡ xs;
      before : l.before ≡ counts_between xs (224 * l.first) (224 * l.line);
      counts : (k : ℕ) → l.first ≤ k → k < l.line → slice_index l.lines (8 * k) ≡ counts_between xs (224 * l.first) (224 * k + 128);
      kept : (i : ℕ) → i < 8 * l.first → slice_index l.lines i ≡ slice_index old i;
    }
