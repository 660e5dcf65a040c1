-- The zero after a node's ones stands behind that before them.
use Rattle.std.proofs.Common.{arith}
use Rattle.louds.proofs.lemmas.TreeLemmas.{zero_position_more}
use Rattle.louds.proofs.between.child_between.Goals as goal

pub returns-then-end-start-clause-answer : goal.returns-then-end-start-clause-answer
returns-then-end-start-clause-answer c = λ d len _ from to.
    omega (arith, c.if-end-start.true, from, to, zero_position_more d c.args.node (omega (arith, len, c.requires)))
