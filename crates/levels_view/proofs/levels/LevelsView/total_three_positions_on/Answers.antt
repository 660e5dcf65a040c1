-- The three positions move from level to level by the number's bits.
use Rattle.std.proofs.Common.{◌≡◌, ◌+◌, ◌-◌, ◌*◌, ℕ, ap, sym, subst, ◌∙◌, arith}
use Rattle.std.proofs.lemmas.Option.{none-some, same_Some}
use Rattle.bit_lists.specs.Bits.{digit}
use Rattle.bitm_tables.specs.Tables.{bits_in, Lists}
use Rattle.matrix_levels.specs.Levels.{level_position}
use Rattle.matrix_levels.specs.Matrix.{level_in, numbers_in, IsMatrix}
use Rattle.matrix_levels.proofs.lemmas.ReadsLemmas.{ranks-fewer, ranks-more}
use Rattle.matrix_levels.proofs.lemmas.WalkLemmas.{level_position-first, step-position}
use Rattle.levels_view.proofs.levels.LevelsView.total_three_positions_on.Goals as goal

pub loop-depth-init : goal.loop-depth-init
loop-depth-init g c =
    let T = g.T.TableSource in
    let l = c.args.self.now in
    let lists = T.lists c.args.source.now in
    let xs = numbers_in l lists in
    let x = c.args.number in
    let known = c.known-known.ensures.known in
    record {
      base_inside = c.in_ok-base.ensures.inside;
      first_inside = c.in_ok-first.ensures.inside.0;
      last_inside = c.in_ok-first.ensures.inside.1;
      base_is = λ h. same_Some _ _ (c.in_ok-base.ensures.start xs (bits_in lists) h.numbers) ∙ ap (λ k. level_position xs l.width x k 0) (sym known);
      first_is = λ h.
          ap (λ p. p.0)
          (same_Some _ _ (c.in_ok-first.ensures.positions c.args.start c.args.end h (level_position-first xs l.width x c.args.start) (level_position-first xs l.width x c.args.end)));
      last_is = λ h.
          ap (λ p. p.1)
          (same_Some _ _ (c.in_ok-first.ensures.positions c.args.start c.args.end h (level_position-first xs l.width x c.args.start) (level_position-first xs l.width x c.args.end)));
      reads = ranks-fewer l T.lists T.reads c.args.source.now _ (2 * (c.known-known.result - 0)) (2 * l.known + 3 * (c.known-known.result - l.known))
          c.in_ok-first.ensures.reads (omega (arith, known));
    }

pub loop-depth-preserved : goal.loop-depth-preserved
loop-depth-preserved g c =
    let T = g.T.TableSource in
    let l = c.args.self.now in
    let d = c.loop-depth.depth in
    let i = c.loop-depth.invariant in
    let xs = numbers_in l (T.lists c.args.source.now) in
    let one = c.in_ok-front.ensures.reads in
    let two = c.in_ok-next.ensures.reads in
    let three = c.in_ok-after.ensures.reads in
    let to_two = one.same ∙ i.reads.same in
    let to_three = two.same ∙ to_two in
    let r = 2 * l.known + 3 * (d - l.known) in
    let dig = c.digit_of-digit.ensures ∙ ap (λ (w : ℕ). digit c.args.number (w - 1 - d)) c.width-width.ensures.width in
    record {
      base_inside = c.in_ok-front.ensures.inside;
      first_inside = c.in_ok-next.ensures.inside;
      last_inside = c.in_ok-after.ensures.inside;
      base_is = λ h.
          let here = subst (λ (s : Lists). IsMatrix l s) (sym i.reads.same) h in
          step-position xs l.width c.args.number d 0 c.loop-depth.base c.in_ok-front.front c.digit_of-digit.result
          (level_in l (T.lists c.loop-depth.source) d) (ap (λ (s : Lists). level_in l s d) i.reads.same) dig (i.base_is h)
          (same_Some _ _ (c.in_ok-front.ensures.answer here));
      first_is = λ h.
          let here = subst (λ (s : Lists). IsMatrix l s) (sym to_two) h in
          step-position xs l.width c.args.number d c.args.start c.loop-depth.first c.in_ok-next.next c.digit_of-digit.result
          (level_in l (T.lists c.total_next_on.new.source) d) (ap (λ (s : Lists). level_in l s d) to_two) dig (i.first_is h)
          (same_Some _ _ (c.in_ok-next.ensures.answer here));
      last_is = λ h.
          let here = subst (λ (s : Lists). IsMatrix l s) (sym to_three) h in
          step-position xs l.width c.args.number d c.args.end c.loop-depth.last c.in_ok-after.after c.digit_of-digit.result
          (level_in l (T.lists c.total_next_on-in-loop-depth.new.source) d) (ap (λ (s : Lists). level_in l s d) to_three) dig (i.last_is h)
          (same_Some _ _ (c.in_ok-after.ensures.answer here));
      reads =
          ranks-more l T.lists T.reads c.args.source.now c.total_next_on-in-loop-depth.new.source _ (r + 2) 1 (2 * l.known + 3 * (d + 1 - l.known))
          (ranks-more l T.lists T.reads c.args.source.now c.total_next_on.new.source c.total_next_on-in-loop-depth.new.source (r + 1) 1 (r + 2)
          (ranks-more l T.lists T.reads c.args.source.now c.loop-depth.source c.total_next_on.new.source r 1 (r + 1) i.reads one (omega arith))
          two (omega arith))
          three (omega (arith, c.loop-depth.auto, c.known-known.ensures.known));
    }

pub returns-clause-positions : goal.returns-clause-positions
returns-clause-positions g c = λ h.
    let l = c.args.self.now in
    let i = c.loop-depth.invariant in
    let xs = numbers_in l (g.T.TableSource.lists c.args.source.now) in
    let all : c.loop-depth.depth ≡ l.width =
    omega (arith, c.loop-depth-test.false, c.loop-depth.auto, c.width-width.ensures.width, c.known-known.ensures.most) in (
      i.base_is h ∙ ap (λ k. level_position xs l.width c.args.number k 0) all,
      i.first_is h ∙ ap (λ k. level_position xs l.width c.args.number k c.args.start) all,
      i.last_is h ∙ ap (λ k. level_position xs l.width c.args.number k c.args.end) all,
    )

pub returns-in_err-first-clause-positions : goal.returns-in_err-first-clause-positions
returns-in_err-first-clause-positions g c = λ h.
    let l = c.args.self.now in
    let x = c.args.number in
    let xs = numbers_in l (g.T.TableSource.lists c.args.source.now) in
    absurd (none-some _ (c.in_err-first.ensures.positions c.args.start c.args.end h (level_position-first xs l.width x c.args.start) (level_position-first xs l.width x c.args.end)))
