-- The item goes through all levels.
use Rattle.std.proofs.Common.{◌<◌, length, ◌∙◌, arith}
use Rattle.std.specs.Prelude.{slice_index}
use Rattle.matrix_levels.specs.Matrix.{numbers_in}
use Rattle.matrix_levels.proofs.lemmas.ManyLemmas.{level-first}
use Rattle.matrix_levels.proofs.lemmas.PrefixLemmas.{prefix-all}
use Rattle.levels_view.proofs.levels.LevelsView.total_get_on.Goals as goal

pub returns-in-Some-clause-answer : goal.returns-in-Some-clause-answer
returns-in-Some-clause-answer g c = λ h.
    let l = c.args.self.now in
    let m = h.numbers in
    let xs = numbers_in l (g.T.TableSource.lists c.args.source.now) in
    let i = c.args.i in
    let within : i < length xs = omega (arith, c.if-i-len.false, c.len.ensures.len, m.count) in
    let begin = level-first xs l.width m.fit m.most i within in
    let way = c.in-Some.ensures.answer i h (omega (arith, within, m.count)) begin.position begin.digits in
    (within, way.0 ∙ prefix-all (slice_index xs i) l.width c.width.result c.width.ensures.width)

pub returns-in-None-clause-answer : goal.returns-in-None-clause-answer
returns-in-None-clause-answer g c = λ h.
    let l = c.args.self.now in
    let m = h.numbers in
    let xs = numbers_in l (g.T.TableSource.lists c.args.source.now) in
    let i = c.args.i in
    let within : i < length xs = omega (arith, c.if-i-len.false, c.len.ensures.len, m.count) in
    let begin = level-first xs l.width m.fit m.most i within in
    c.in-None.ensures.answer i h (omega (arith, within, m.count)) begin.position begin.digits
