use Rattle.std.proofs.Common.{◌/◌, length}
use Rattle.digits.specs.Digits.{digits_of}
use Rattle.digits.proofs.lemmas.CountedLemmas.{CountedTo}
use Rattle.digits.proofs.checking.check.Given as goal

-- the entries so far and their lines are counted
abbrev pub invariant-loop-entry : goal.invariant-loop-entry
invariant-loop-entry l = CountedTo (digits_of l.lines) l.lines l.table (length l.lines / 8) l.entry l.counts
