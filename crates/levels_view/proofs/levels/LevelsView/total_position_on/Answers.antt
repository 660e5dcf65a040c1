-- The position moves from level to level by the number's bits.
use Rattle.std.proofs.Common.{◌≡◌, ℕ, Some, ◌+◌, ◌-◌, ap, sym, subst, ◌∙◌, arith}
use Rattle.std.proofs.lemmas.Option.{same_Some}
use Rattle.bit_lists.specs.Bits.{digit}
use Rattle.bitm_tables.specs.Tables.{Lists}
use Rattle.matrix_levels.specs.Levels.{level_position}
use Rattle.matrix_levels.specs.Matrix.{level_in, numbers_in, IsMatrix}
use Rattle.matrix_levels.proofs.lemmas.ReadsLemmas.{ranks-fewer, ranks-more, ranks-none}
use Rattle.matrix_levels.proofs.lemmas.WalkLemmas.{step-position}
use Rattle.levels_view.proofs.levels.LevelsView.total_position_on.Goals as goal

pub loop-depth-init : goal.loop-depth-init
loop-depth-init g c =
    let T = g.T.TableSource in
    let l = c.args.self.now in
    let s = c.args.source.now in
    record {
      inside = c.requires.inside;
      position = λ p h e. e;
      reads = ranks-fewer l T.lists T.reads s s 0 (c.args.from - c.args.from) (ranks-none l T.lists T.reads s) (omega arith);
    }

pub loop-depth-preserved : goal.loop-depth-preserved
loop-depth-preserved g c =
    let T = g.T.TableSource in
    let l = c.args.self.now in
    let d = c.loop-depth.depth in
    let i = c.loop-depth.invariant in
    let xs = numbers_in l (T.lists c.args.source.now) in
    let dig = c.digit_of.ensures ∙ ap (λ (w : ℕ). digit c.args.number (w - 1 - d)) c.width-last.ensures.width in
    record {
      inside = c.in_ok-at.ensures.inside;
      position = λ p h e.
          let here = subst (λ (s : Lists). IsMatrix l s) (sym i.reads.same) h in
          step-position xs l.width c.args.number d p c.loop-depth.at c.in_ok-at.at c.digit_of.result
          (level_in l (T.lists c.loop-depth.source) d) (ap (λ (s : Lists). level_in l s d) i.reads.same) dig (i.position p h e)
          (same_Some _ _ (c.in_ok-at.ensures.answer here));
      reads = ranks-more l T.lists T.reads c.args.source.now c.loop-depth.source _ (d - c.args.from) 1 (d + 1 - c.args.from) i.reads c.in_ok-at.ensures.reads
          (omega (arith, c.loop-depth.auto));
    }

pub returns-clause-position : goal.returns-clause-position
returns-clause-position g c = λ p h e.
    let l = c.args.self.now in
    let xs = numbers_in l (g.T.TableSource.lists c.args.source.now) in
    let all : c.loop-depth.depth ≡ c.args.to = omega (arith, c.loop-depth-test.false, c.loop-depth.auto, c.requires.order) in
    ap Some (c.loop-depth.invariant.position p h e ∙ ap (λ k. level_position xs l.width c.args.number k p) all)
