-- The numbers before the first that is at least the next value.
use Rattle.elias_fano.proofs.lemmas.SequenceLemmas.{reaches-next, reaches-none}
use Rattle.elias_fano.proofs.predecessor.count_at_most.Goals as goal

pub returns-in-Found-clause-reaches : goal.returns-in-Found-clause-reaches
returns-in-Found-clause-reaches g c = λ xs h f. reaches-next xs c.args.v _ h.are.sequence.rising (c.in-Found.ensures.answer xs h f)

pub returns-in-Absent-clause-reaches : goal.returns-in-Absent-clause-reaches
returns-in-Absent-clause-reaches g c = λ xs h f. reaches-none xs c.args.v _ h.are.count (c.in-Absent.ensures.answer xs h f)
