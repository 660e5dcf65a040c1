-- The walk goes on from where the table of starts says.
use Rattle.std.proofs.Common.{Some, ap, sym, ◌∙◌}
use Rattle.std.proofs.lemmas.Option.{same_Some}
use Rattle.bitm_tables.specs.Tables.{bits_in}
use Rattle.matrix_levels.specs.Levels.{level_position}
use Rattle.matrix_levels.specs.Matrix.{numbers_in}
use Rattle.levels_view.proofs.levels.LevelsView.total_start_on.Goals as goal

pub returns-clause-start : goal.returns-clause-start
returns-clause-start g c = λ h.
    let l = c.args.self.now in
    let lists = g.T.TableSource.lists c.args.source.now in
    let xs = numbers_in l lists in
    let x = c.args.number in
    let from = same_Some _ _ (c.in_ok-start.ensures.start xs (bits_in lists) h.numbers) ∙ ap (λ k. level_position xs l.width x k 0) (sym c.known.ensures.known) in
    c.total_position_on.ensures.position 0 h from ∙ ap (λ k. Some (level_position xs l.width x k 0)) c.width.ensures.width
