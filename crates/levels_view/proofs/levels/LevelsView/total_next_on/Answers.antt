-- The level's 1 bits before the position say where it moves.
use Rattle.bitm_tables.specs.Tables.{bits_in}
use Rattle.matrix_levels.specs.Matrix.{numbers_in}
use Rattle.levels_view.proofs.levels.LevelsView.total_next_on.Goals as goal

pub returns-clause-answer : goal.returns-clause-answer
returns-clause-answer g c = λ h.
    let l = c.args.self.now in
    let lists = g.T.TableSource.lists c.args.source.now in
    c.position_after.ensures.answer (numbers_in l lists) (bits_in lists) h.numbers (c.level_ones_on-ones.ensures.answer h)
