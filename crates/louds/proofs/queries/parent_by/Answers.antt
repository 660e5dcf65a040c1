-- The one of a node shows its parent, and each node has one.
use Rattle.louds.proofs.queries.parent_by.Goals as goal

pub returns-in-Some-clause-answer : goal.returns-in-Some-clause-answer
returns-in-Some-clause-answer g c = λ h f. c.parent_at.ensures.answer _ h.held.count (c.in-Some.ensures.position h f)

pub returns-in-None-clause-answer : goal.returns-in-None-clause-answer
returns-in-None-clause-answer g c = λ h f. c.in-None.ensures.position h f
