-- The items of either bit stand side by side.
use Rattle.bitm_tables.specs.Tables.{bits_in}
use Rattle.matrix_levels.specs.Matrix.{numbers_in}
use Rattle.levels_view.proofs.levels.LevelsView.total_halves_on.Goals as goal

pub returns-clause-halves : goal.returns-clause-halves
returns-clause-halves g c = λ h.
    let l = c.args.self.now in
    let lists = g.T.TableSource.lists c.args.source.now in
    let xs = numbers_in l lists in
    let b = bits_in lists in
    let e = c.args.range.end in
    let part = c.in_ok-before.ensures.answer h in (
      c.in_ok-zero_start.ensures.answer xs b e h.numbers c.requires.order c.requires.inside part.0 part.2,
      c.in_ok-one_start.ensures.answer xs b e h.numbers c.requires.order c.requires.inside part.0 part.1,
    )
