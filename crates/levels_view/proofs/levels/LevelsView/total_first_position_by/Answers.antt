-- Each step goes one level up, and the last position is on the first level.
use Rattle.std.proofs.Common.{◌≡◌, ◌+◌, ◌-◌, ◌*◌, ◌<◌, subst, sym, arith}
use Rattle.bitm_tables.specs.Tables.{Lists}
use Rattle.bitm_selection.specs.Selection.{OnlySelectsBy}
use Rattle.matrix_levels.specs.Matrix.{level_in, numbers_in, IsMatrix}
use Rattle.matrix_levels.specs.Numbers.{PicksItem}
use Rattle.matrix_levels.proofs.lemmas.WalkLemmas.{Picks-down, Picks-first, Picks-last, Picks-up}
use Rattle.levels_view.proofs.StepLemmas.{reads-more, reads-none}
use Rattle.levels_view.proofs.levels.LevelsView.total_first_position_by.Goals as goal

pub loop-up-init : goal.loop-up-init
loop-up-init g c =
    let T = g.T.TableSource in
    let l = c.args.self.now in
    record {
      inside = c.requires.inside;
      picked = λ k h f p. Picks-last (numbers_in l (T.lists c.args.source.now)) l.width c.args.number k c.args.position p;
      reads = reads-none T.lists T.reads c.args.source.now _ _ _;
    }

pub loop-up-preserved : goal.loop-up-preserved
loop-up-preserved g c =
    let T = g.T.TableSource in
    let l = c.args.self.now in
    let x = c.args.number in
    let up = c.loop-up.up in
    let i = c.loop-up.invariant in
    let s = T.lists c.args.source.now in
    let width : c.width-width.result ≡ l.width = c.width-width.ensures.width in
    let less : up < l.width = omega (arith, c.loop-up-test.true, width) in
    let each = g.F.Finds.most s in
    let r : OnlySelectsBy T.lists T.reads c.loop-up.source c.total_back_by.new.source each 1 0 =
    subst (λ (m : Lists). OnlySelectsBy T.lists T.reads c.loop-up.source c.total_back_by.new.source (g.F.Finds.most m) 1 0) i.reads.same c.in-Some.ensures.reads in
    record {
      inside = c.in-Some.ensures.inside;
      picked = λ k h f p.
          let there : IsMatrix l (T.lists c.loop-up.source) = subst (λ (m : Lists). IsMatrix l m) (sym i.reads.same) h in
          let finds = subst (λ (m : Lists). g.F.Finds.finds c.args.finder.now m) (sym i.reads.same) f in
          let from : PicksItem (level_in l s (l.width - 1 - up + 1)) x k c.loop-up.at =
          Picks-up (numbers_in l s) l.width up x k c.loop-up.at less (i.picked k h f p) in
          let here : PicksItem (level_in l (T.lists c.loop-up.source) (c.width-width.result - 1 - up + 1)) x k c.loop-up.at =
          subst (λ (m : Lists). PicksItem (level_in l m (c.width-width.result - 1 - up + 1)) x k c.loop-up.at) (sym i.reads.same)
          (subst (λ n. PicksItem (level_in l s (n - 1 - up + 1)) x k c.loop-up.at) (sym width) from) in
          let back = c.in-Some.ensures.answer k there finds here in
          Picks-down (numbers_in l s) l.width up x k c.in-Some.back
          (subst (λ n. PicksItem (level_in l s (n - 1 - up)) x k c.in-Some.back) width
          (subst (λ (m : Lists). PicksItem (level_in l m (c.width-width.result - 1 - up)) x k c.in-Some.back) i.reads.same back));
      reads =
          reads-more T.lists T.reads c.args.source.now c.loop-up.source c.total_back_by.new.source (up * each.upper) (up * each.lower) (up * each.words + 0)
          (1 * each.upper) (1 * each.lower) (1 * each.words + 0) ((up + 1) * each.upper) ((up + 1) * each.lower) ((up + 1) * each.words + 0) i.reads r
          (omega arith) (omega arith) (omega arith);
    }

pub returns-in_default-clause-answer : goal.returns-in_default-clause-answer
returns-in_default-clause-answer g c = λ k h f p.
    let T = g.T.TableSource in
    let l = c.args.self.now in
    let x = c.args.number in
    let up = c.loop-up.up in
    let i = c.loop-up.invariant in
    let s = T.lists c.args.source.now in
    let width : c.width-width.result ≡ l.width = c.width-width.ensures.width in
    let less : up < l.width = omega (arith, c.loop-up-test.true, width) in
    let there : IsMatrix l (T.lists c.loop-up.source) = subst (λ (m : Lists). IsMatrix l m) (sym i.reads.same) h in
    let finds = subst (λ (m : Lists). g.F.Finds.finds c.args.finder.now m) (sym i.reads.same) f in
    let from : PicksItem (level_in l s (l.width - 1 - up + 1)) x k c.loop-up.at =
    Picks-up (numbers_in l s) l.width up x k c.loop-up.at less (i.picked k h f p) in
    let here : PicksItem (level_in l (T.lists c.loop-up.source) (c.width-width.result - 1 - up + 1)) x k c.loop-up.at =
    subst (λ (m : Lists). PicksItem (level_in l m (c.width-width.result - 1 - up + 1)) x k c.loop-up.at) (sym i.reads.same)
    (subst (λ n. PicksItem (level_in l s (n - 1 - up + 1)) x k c.loop-up.at) (sym width) from) in
    c.in_default.ensures.answer k there finds here

pub returns-clause-answer : goal.returns-clause-answer
returns-clause-answer g c = λ k h f p.
    let l = c.args.self.now in
    Picks-first (numbers_in l (g.T.TableSource.lists c.args.source.now)) l.width c.loop-up.up c.args.number k c.loop-up.at
    (omega (arith, c.loop-up-test.false, c.loop-up.auto.up-end, c.width-width.ensures.width)) (c.loop-up.invariant.picked k h f p)

pub returns-clause-reads : goal.returns-clause-reads
returns-clause-reads g c =
    let T = g.T.TableSource in
    let all : c.loop-up.up ≡ c.args.self.now.width = omega (arith, c.loop-up-test.false, c.loop-up.auto.up-end, c.width-width.ensures.width) in
    subst (λ n. OnlySelectsBy T.lists T.reads c.args.source.now c.loop-up.source (g.F.Finds.most (T.lists c.args.source.now)) n 0) all c.loop-up.invariant.reads
