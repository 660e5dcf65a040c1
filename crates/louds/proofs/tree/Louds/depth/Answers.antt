-- One level up.
use Rattle.std.proofs.Common.{◌≡◌, ℕ, suc, ◌+◌, arith, subst}
use Rattle.louds.specs.Above.{IsAbove}
use Rattle.louds.proofs.lemmas.AboveLemmas.{above_more}
use Rattle.louds.proofs.tree.Louds.depth.Goals as goal

pub loop-parent-preserved : goal.loop-parent-preserved
loop-parent-preserved g c =
    let d = c.args.self.now.degrees in
    let up = c.in-Some.ensures in
    let next : suc c.loop-parent.levels ≡ c.loop-parent.levels + 1 = omega arith in
    record {
      inside = omega (arith, c.loop-parent.invariant.inside, up.0);
      few = omega (arith, c.loop-parent.invariant.few, up.0);
      above = subst (λ (n : ℕ). IsAbove d n c.in-Some.parent c.args.node) next
          (above_more d c.loop-parent.levels c.in-Some.parent up.1.0 c.loop-parent.at c.args.node up.1.1 c.loop-parent.invariant.above);
    }
