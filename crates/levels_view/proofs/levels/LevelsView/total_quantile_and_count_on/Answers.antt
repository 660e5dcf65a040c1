-- What is found is the number, with its count.
use Rattle.std.proofs.Common.{◌-◌, ◌<◌, ◌≤◌, length, arith}
use Rattle.matrix_levels.specs.Matrix.{numbers_in}
use Rattle.levels_view.proofs.levels.LevelsView.total_quantile_and_count_on.Goals as goal

pub returns-in-Some-clause-answer : goal.returns-in-Some-clause-answer
returns-in-Some-clause-answer g c = λ h.
    let inside : c.args.end ≤ length (numbers_in c.args.self.now (g.T.TableSource.lists c.args.source.now)) =
    omega (arith, h.numbers.count, c.len.ensures.len) in
    let rank : c.args.k < c.args.end - c.args.start = omega arith in
    let is = c.in-Some.ensures.answer h in
    (rank, inside, is.0, is.1)
