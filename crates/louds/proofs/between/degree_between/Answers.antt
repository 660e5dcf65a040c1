-- The 0 bit after a node's 1 bits stands after the 0 bit before them, by the node's degree and one; a degree is less than
-- the number of nodes.
use Rattle.std.proofs.Common.{◌<◌, length, arith}
use Rattle.std.proofs.lemmas.List.Sums.{sum_by_more_le}
use Rattle.louds.proofs.lemmas.TreeLemmas.{zero_position_more}
use Rattle.louds.proofs.between.degree_between.Goals as goal

pub returns-then-degree-len-clause-answer : goal.returns-then-degree-len-clause-answer
returns-then-degree-len-clause-answer c = λ d len tree from to.
    omega (arith, from, to, c.ranges.end.fits, zero_position_more d c.args.node (omega (arith, len, c.requires)))

pub returns-else-degree-len-clause-answer : goal.returns-else-degree-len-clause-answer
returns-else-degree-len-clause-answer c = λ d len tree from to.
    let inside : c.args.node < length d = omega (arith, len, c.requires) in
    omega (
      arith,
      c.if-degree-len.false,
      len,
      tree.count,
      from,
      to,
      c.ranges.end.fits,
      zero_position_more d c.args.node inside,
      sum_by_more_le (λ x. x) d c.args.node 0 inside,
    )
