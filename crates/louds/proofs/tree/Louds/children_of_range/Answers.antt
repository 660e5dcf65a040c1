-- The children of a range stand side by side.
use Rattle.std.proofs.Common.{arith}
use Rattle.louds.proofs.lemmas.AboveLemmas.{below_between}
use Rattle.louds.proofs.lemmas.TreeLemmas.{sum_order}
use Rattle.louds.proofs.tree.Louds.children_of_range.Goals as goal

pub returns-clause-below : goal.returns-clause-below
returns-clause-below g c =
    below_between c.args.self.now.degrees c.args.nodes.start c.args.nodes.end _ _ c.requires.order c.requires.inside
    (omega (arith, c.zero-start.ensures.position)) (omega (arith, c.zero-end.ensures.position))

pub returns-clause-order : goal.returns-clause-order
returns-clause-order g c =
    omega (
      arith,
      c.zero-start.ensures.position,
      c.zero-end.ensures.position,
      sum_order c.args.self.now.degrees c.args.nodes.start c.args.nodes.end c.requires.order c.requires.inside,
    )
