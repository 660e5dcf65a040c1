use Rattle.hash_block.proofs.ArrangeLemmas.{Arranging}
use Rattle.hash_block.proofs.strings.arranging.arrange.Given as goal

-- the strings of the numbers so far stand one after another
abbrev pub invariant-loop-v : goal.invariant-loop-v
invariant-loop-v l = Arranging l.bytes l.ends l.initial.starts l.initial.to l.starts l.to l.at l.v
