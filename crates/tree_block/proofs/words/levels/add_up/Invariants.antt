use Rattle.tree_block.proofs.CountLemmas.{IsSummed}
use Rattle.tree_block.proofs.words.levels.add_up.Given as goal

-- the numbers so far are sums
abbrev pub invariant-loop-k : goal.invariant-loop-k
invariant-loop-k l = IsSummed l.initial.numbers l.numbers l.total l.k
