-- The position moves one level on by the number's bit.
use Rattle.std.proofs.Common.{ℕ, ◌-◌, ap, refl, ◌∙◌}
use Rattle.std.proofs.lemmas.Option.{same_Some}
use Rattle.bit_lists.specs.Bits.{digit}
use Rattle.matrix_levels.specs.Matrix.{level_in, numbers_in}
use Rattle.matrix_levels.proofs.lemmas.WalkLemmas.{step-position}
use Rattle.levels_view.proofs.levels.LevelsView.total_position_moved_on.Goals as goal

pub returns-in-Some-clause-moved : goal.returns-in-Some-clause-moved
returns-in-Some-clause-moved g c = λ i w.
    let l = c.args.self.now in
    let lists = g.T.TableSource.lists c.args.source.now in
    let xs = numbers_in l lists in
    let d = c.args.depth in
    let dig = c.digit_of-digit.ensures ∙ ap (λ (k : ℕ). digit c.args.number (k - 1 - d)) c.width.ensures.width in
    record {
      inside = λ _. c.in-Some.ensures.inside;
      position = λ h. step-position xs l.width c.args.number d i c.args.position c.in-Some.next c.digit_of-digit.result (level_in l lists d) refl dig (w.position h)
          (same_Some _ _ (c.in-Some.ensures.answer h));
    }
