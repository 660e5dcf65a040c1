use Rattle.std.proofs.Common.{◌≡◌, ◌/◌, length}
use Rattle.digits.specs.Digits.{digits_of}
use Rattle.digits.proofs.lemmas.CountedLemmas.{CountedTo}
use Rattle.digits.proofs.building.write_counts.Given as goal

-- the digits are the same; the entries so far and their lines are counted
abbrev pub invariant-loop-entry : goal.invariant-loop-entry
invariant-loop-entry l =
    let old = l.fn.lines in
    record {
      lines_len : length l.lines ≡ length old;
      table_len : length l.table ≡ length l.fn.table;
      digits : digits_of l.lines ≡ digits_of old;
      counted : CountedTo (digits_of old) l.lines l.table (length old / 8) l.entry l.counts;
    }
