-- Both positions move from level to level by the number's bits.
use Rattle.std.proofs.Common.{◌≡◌, ℕ, Some, ◌+◌, ◌-◌, ◌*◌, ap, sym, subst, ◌∙◌, arith}
use Rattle.std.proofs.lemmas.Option.{same_Some}
use Rattle.bit_lists.specs.Bits.{digit}
use Rattle.bitm_tables.specs.Tables.{Lists}
use Rattle.matrix_levels.specs.Levels.{level_position}
use Rattle.matrix_levels.specs.Matrix.{level_in, numbers_in, IsMatrix}
use Rattle.matrix_levels.proofs.lemmas.ReadsLemmas.{ranks-fewer, ranks-more, ranks-none}
use Rattle.matrix_levels.proofs.lemmas.WalkLemmas.{step-position}
use Rattle.levels_view.proofs.levels.LevelsView.total_positions_on.Goals as goal

pub loop-depth-init : goal.loop-depth-init
loop-depth-init g c =
    let T = g.T.TableSource in
    let l = c.args.self.now in
    let s = c.args.source.now in
    record {
      first_inside = c.requires.start;
      second_inside = c.requires.end;
      first_is = λ p h e. e;
      second_is = λ p h e. e;
      reads = ranks-fewer l T.lists T.reads s s 0 (2 * (c.args.from - c.args.from)) (ranks-none l T.lists T.reads s) (omega arith);
    }

pub loop-depth-preserved : goal.loop-depth-preserved
loop-depth-preserved g c =
    let T = g.T.TableSource in
    let l = c.args.self.now in
    let d = c.loop-depth.depth in
    let i = c.loop-depth.invariant in
    let xs = numbers_in l (T.lists c.args.source.now) in
    let near = c.in_ok-next.ensures.reads in
    let far = c.in_ok-after.ensures.reads in
    let both = near.same ∙ i.reads.same in
    let dig = c.digit_of-digit.ensures ∙ ap (λ (w : ℕ). digit c.args.number (w - 1 - d)) c.width-last.ensures.width in
    record {
      first_inside = c.in_ok-next.ensures.inside;
      second_inside = c.in_ok-after.ensures.inside;
      first_is = λ p h e.
          let here = subst (λ (s : Lists). IsMatrix l s) (sym i.reads.same) h in
          step-position xs l.width c.args.number d p c.loop-depth.first c.in_ok-next.next c.digit_of-digit.result
          (level_in l (T.lists c.loop-depth.source) d) (ap (λ (s : Lists). level_in l s d) i.reads.same) dig (i.first_is p h e)
          (same_Some _ _ (c.in_ok-next.ensures.answer here));
      second_is = λ p h e.
          let there = subst (λ (s : Lists). IsMatrix l s) (sym both) h in
          step-position xs l.width c.args.number d p c.loop-depth.second c.in_ok-after.after c.digit_of-digit.result
          (level_in l (T.lists c.total_next_on.new.source) d) (ap (λ (s : Lists). level_in l s d) both) dig (i.second_is p h e)
          (same_Some _ _ (c.in_ok-after.ensures.answer there));
      reads =
          ranks-more l T.lists T.reads c.args.source.now c.total_next_on.new.source _ (2 * (d - c.args.from) + 1) 1 (2 * (d + 1 - c.args.from))
          (ranks-more l T.lists T.reads c.args.source.now c.loop-depth.source c.total_next_on.new.source (2 * (d - c.args.from)) 1
          (2 * (d - c.args.from) + 1) i.reads near (omega arith))
          far (omega (arith, c.loop-depth.auto));
    }

pub returns-clause-positions : goal.returns-clause-positions
returns-clause-positions g c = λ s e h starts ends.
    let l = c.args.self.now in
    let i = c.loop-depth.invariant in
    let xs = numbers_in l (g.T.TableSource.lists c.args.source.now) in
    let all : c.loop-depth.depth ≡ c.args.to = omega (arith, c.loop-depth-test.false, c.loop-depth.auto, c.requires.order) in
    ap (λ p. Some p)
    (ap (λ a. (a, c.loop-depth.second)) (i.first_is s h starts ∙ ap (λ k. level_position xs l.width c.args.number k s) all)
    ∙ ap (λ b. (level_position xs l.width c.args.number c.args.to s, b)) (i.second_is e h ends ∙ ap (λ k. level_position xs l.width c.args.number k e) all))
