-- After the last level the digits are those of the numbers.
use Rattle.std.proofs.Common.{◌≡◌, get_or, arith}
use Rattle.levels_view.proofs.WalkLemmas.{claimed}
use Rattle.levels_view.proofs.levels.LevelsView.total_get_many_on.Goals as goal

pub returns-clause-each : goal.returns-clause-each
returns-clause-each g c = λ k less.
    let l = c.args.self.now in
    let i = c.loop-depth.invariant in
    let all : c.loop-depth.depth ≡ l.width = omega (arith, c.loop-depth-test.false, i.few, c.width-width.ensures.width) in
    claimed l (g.T.TableSource.lists c.args.source.now) (get_or c.args.indices.now k 0) (get_or c.loop-depth.positions k 0) (get_or c.loop-depth.numbers k 0) c.loop-depth.depth all
    (i.each k less)
