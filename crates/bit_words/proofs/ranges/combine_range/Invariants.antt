use Rattle.bit_words.proofs.lemmas.RangeLemmas.{AreRanged}
use Rattle.bit_words.proofs.ranges.combine_range.Given as goal

-- the words up to this one are combined where the range is, and the others as they were
abbrev pub invariant-loop-k : goal.invariant-loop-k
invariant-loop-k g l = AreRanged g.row.OP l.from l.to l.fn.words l.words l.k
