-- The node of the greater number goes up to the first whose number is none greater than the other's.
use Rattle.std.proofs.Common.{◌≡◌, ℕ, arith, subst}
use Rattle.louds.specs.Above.{IsAncestor}
use Rattle.louds.proofs.lemmas.AboveLemmas.{ancestor_join, common_kept}
use Rattle.louds.proofs.tree.Louds.lowest_common_ancestor.Goals as goal

pub loop-low-preserved-then-low-high : goal.loop-low-preserved-then-low-high
loop-low-preserved-then-low-high g c =
    let d = c.args.self.now.degrees in
    let i = c.loop-low.invariant in
    let up = c.climb-low.ensures in
    record {
      low_inside = omega (arith, i.low_inside, up.lower);
      high_inside = i.high_inside;
      low_above = ancestor_join d c.climb-low.result c.loop-low.low c.args.one up.climbed.above i.low_above;
      high_above = i.high_above;
      common = λ x near far.
          let both = i.common x near far in
          (common_kept d c.loop-low.low c.loop-low.high c.climb-low.result x c.len-nodes.ensures.tree i.high_inside up.climbed both.0 both.1, both.1);
    }

pub loop-low-preserved : goal.loop-low-preserved
loop-low-preserved g c =
    let d = c.args.self.now.degrees in
    let i = c.loop-low.invariant in
    let up = c.climb-high.ensures in
    record {
      low_inside = i.low_inside;
      high_inside = omega (arith, i.high_inside, up.lower);
      low_above = i.low_above;
      high_above = ancestor_join d c.climb-high.result c.loop-low.high c.args.other up.climbed.above i.high_above;
      common = λ x near far.
          let both = i.common x near far in
          (both.0, common_kept d c.loop-low.high c.loop-low.low c.climb-high.result x c.len-nodes.ensures.tree i.low_inside up.climbed both.1 both.0);
    }

pub returns : goal.returns
returns g c =
    let i = c.loop-low.invariant in
    let same : c.loop-low.high ≡ c.loop-low.low = omega (arith, c.loop-low-test.false) in
    record {
      one = i.low_above;
      other = subst (λ (x : ℕ). IsAncestor c.args.self.now.degrees x c.args.other) same i.high_above;
      lowest = λ x near far. (i.common x near far).0;
    }
