-- Numbers that never decrease reach a value from the first one on that does.
use Rattle.example_callers.proofs.lemmas.BetweenLemmas.{reached-first, reached-none}
use Rattle.example_callers.proofs.between.index_from.Goals as goal

pub returns-in-Some-clause-reached : goal.returns-in-Some-clause-reached
returns-in-Some-clause-reached g c = λ xs h.
    reached-first xs c.args.v _ c.reached_from_there.ensures h.are.sequence (c.in-Some.ensures.answer xs h)

pub returns-in-None-clause-reached : goal.returns-in-None-clause-reached
returns-in-None-clause-reached g c = λ xs h. reached-none xs c.args.v _ h.are.count (c.in-None.ensures.answer xs h)
