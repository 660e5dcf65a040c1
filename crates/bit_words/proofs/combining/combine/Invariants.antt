use Rattle.bit_words.proofs.lemmas.CombineLemmas.{AreCombined}
use Rattle.bit_words.proofs.combining.combine.Given as goal

-- the words up to this one are combined, and the others as they were
abbrev pub invariant-loop-k : goal.invariant-loop-k
invariant-loop-k g l = AreCombined g.row.OP l.fn.words l.other l.words l.k
