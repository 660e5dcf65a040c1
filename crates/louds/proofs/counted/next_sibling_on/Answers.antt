-- There is the node.
use Rattle.std.proofs.Common.{refl, arith}
use Rattle.louds.specs.Tree.{IsLastChild}
use Rattle.louds.proofs.lemmas.SiblingLemmas.{absent_inside}
use Rattle.louds.proofs.counted.next_sibling_on.Goals as goal

pub returns-in-Absent-clause-sibling : goal.returns-in-Absent-clause-sibling
returns-in-Absent-clause-sibling g c =
    absent_inside (λ d. IsLastChild d c.args.node) _ _ refl c.args.node (omega (arith, c.requires.node, c.requires.tree.held.count))
    (c.in-Absent.ensures.answer c.requires.tree tt)
