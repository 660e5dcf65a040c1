-- The one is that of the node, and it stands in the words.
use Rattle.std.proofs.Common.{arith}
use Rattle.louds.proofs.lemmas.HeldLemmas.{has_one, one_is}
use Rattle.louds.proofs.queries.one_by.Goals as goal

pub returns-in-Found-clause-position : goal.returns-in-Found-clause-position
returns-in-Found-clause-position g c = λ h f. one_is _ _ _ h.held c.args.node c.in-Found.position c.requires.node (c.in-Found.ensures.answer h.indexed.tables f)

pub returns-in-Absent-clause-position : goal.returns-in-Absent-clause-position
returns-in-Absent-clause-position g c = λ h f.
    omega (arith, has_one _ _ _ h.held c.args.node c.requires.node, c.in-Absent.ensures.answer h.indexed.tables f)
