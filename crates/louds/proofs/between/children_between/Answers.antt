-- The children of a node are after it, the first not after the last, and all of them nodes.
use Rattle.std.proofs.Common.{◌+◌, ◌<◌, ◌≤◌, length, take, ⊎_elim, arith}
use Rattle.std.proofs.lemmas.Bool.{cases_lt}
use Rattle.std.specs.List.{sum}
use Rattle.louds.proofs.lemmas.TreeLemmas.{sum_part, zero_position_more}
use Rattle.louds.proofs.between.children_between.Goals as goal

pub returns-else-node-first-clause-answer : goal.returns-else-node-first-clause-answer
returns-else-node-first-clause-answer c = λ d len tree from to.
    let v = c.args.node in
    let inside : v < length d = omega (arith, len, c.requires) in
    let more = zero_position_more d v inside in
    let all = sum_part d (v + 1) in
    let before : v ≤ sum (take v d) = ⊎_elim (λ some. tree.parents v some inside) (λ none. omega (arith, none)) (cases_lt 0 v) in
    omega (
      arith,
      c.else-node-first.either,
      from,
      to,
      more,
      all,
      before,
      tree.count,
      len,
      c.ranges.start.fits,
      c.ranges.end.fits,
    )
