-- One level up: a node with a number up to the bound is not the node itself, so it stands above the parent.
use Rattle.std.proofs.Common.{arith}
use Rattle.louds.proofs.lemmas.AboveLemmas.{ancestor_more, ancestor_of_parent}
use Rattle.louds.proofs.tree.Louds.climb.Goals as goal

pub loop-at-preserved : goal.loop-at-preserved
loop-at-preserved g c =
    let d = c.args.self.now.degrees in
    let up = c.in-Some.ensures in
    let child = up.1.1 in
    record {
      inside = omega (arith, c.loop-at.invariant.inside, up.0);
      lower = omega (arith, c.loop-at.invariant.lower, up.0);
      above = ancestor_more d c.in-Some.parent up.1.0 c.loop-at.at c.args.node child c.loop-at.invariant.above;
      first = λ x low far.
          ancestor_of_parent d c.in-Some.parent up.1.0 x c.loop-at.at child (λ same. omega (arith, c.loop-at-test.true, low, same))
          (c.loop-at.invariant.first x low far);
    }
