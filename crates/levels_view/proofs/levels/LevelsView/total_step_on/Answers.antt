-- The bit is the item's digit, and the item moves to where it stands at the next level.
use Rattle.std.proofs.Common.{arith}
use Rattle.bitm_tables.specs.Tables.{bits_in}
use Rattle.matrix_levels.specs.Matrix.{numbers_in}
use Rattle.levels_view.proofs.StepLemmas.{step-is}
use Rattle.levels_view.proofs.levels.LevelsView.total_step_on.Goals as goal

pub returns-then-next-len-clause-answer : goal.returns-then-next-len-clause-answer
returns-then-next-len-clause-answer g c = λ h.
    let l = c.args.self.now in
    let lists = g.T.TableSource.lists c.args.source.now in
    let step = c.bit_and_level_ones_on-digit in
    let to = c.moved-next.ensures (numbers_in l lists) (bits_in lists) h.numbers (step.ensures.answer h) in
    ((step-is (numbers_in l lists) l (bits_in lists) h.numbers c.args.depth c.args.position c.requires.depth c.requires.inside step.result.0 c.moved-next.result step.ensures.bit to).0, to)

pub returns-else-next-len-clause-answer : goal.returns-else-next-len-clause-answer
returns-else-next-len-clause-answer g c = λ h.
    let l = c.args.self.now in
    let lists = g.T.TableSource.lists c.args.source.now in
    let step = c.bit_and_level_ones_on-digit in
    let to = c.moved-next.ensures (numbers_in l lists) (bits_in lists) h.numbers (step.ensures.answer h) in
    omega (
      arith,
      (step-is (numbers_in l lists) l (bits_in lists) h.numbers c.args.depth c.args.position c.requires.depth c.requires.inside step.result.0 c.moved-next.result step.ensures.bit to).1,
      c.if-next-len.false,
      c.len.ensures.len,
    )
