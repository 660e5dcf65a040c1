-- The item moves one level on, and its next digit comes.
use Rattle.std.proofs.Common.{◌+◌, ◌<◌, refl, arith}
use Rattle.matrix_levels.specs.Matrix.{level_in, numbers_in, IsMatrix}
use Rattle.matrix_levels.proofs.lemmas.ManyLemmas.{IsAtLevel, level-next-item}
use Rattle.levels_view.proofs.StepLemmas.{digits_more}
use Rattle.levels_view.proofs.levels.LevelsView.total_moved_on.Goals as goal

pub returns-in-Some-clause-moved : goal.returns-in-Some-clause-moved
returns-in-Some-clause-moved g c = λ i w.
    let l = c.args.self.now in
    let lists = g.T.TableSource.lists c.args.source.now in
    let d = c.args.depth in
    let next : (h : IsMatrix l lists) → (i < l.len) → IsAtLevel (numbers_in l lists) l.width (d + 1) i c.in-Some.next _ = λ h some.
    let m = h.numbers in
    let step = c.in-Some.ensures.answer h in
    level-next-item (numbers_in l lists) l.width m.fit m.most i (omega (arith, some, m.count)) d c.args.position c.args.number c.in-Some.next
    c.in-Some.digit (level_in l lists d) c.requires.depth (record { position = w.position h some; digits = w.digits h some }) refl step.0 step.1 in
    record {
      outside = λ past. absurd (omega (arith, w.outside past, c.if-position-len.false, c.len.ensures.len));
      small = λ _. digits_more c.args.number d c.in-Some.digit (c.requires.small (omega (arith, c.if-position-len.false, c.len.ensures.len)));
      inside = λ _ _. c.in-Some.ensures.inside;
      position = λ h some. (next h some).position;
      digits = λ h some. (next h some).digits;
    }
