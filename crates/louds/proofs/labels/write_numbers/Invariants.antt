use Rattle.louds.proofs.lemmas.LabelLemmas.{ArePacked}
use Rattle.louds.proofs.labels.write_numbers.Given as goal

-- the numbers so far stand at their positions
abbrev pub invariant-loop-i : goal.invariant-loop-i
invariant-loop-i l = ArePacked l.words l.numbers l.width l.i
