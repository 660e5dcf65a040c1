-- No item moves past the end of the next level.
use Rattle.std.proofs.Common.{ap, Some, arith}
use Rattle.matrix_levels.specs.Levels.{level}
use Rattle.matrix_levels.specs.Matrix.{digit_position}
use Rattle.matrix_levels.proofs.lemmas.PartLemmas.{moved-le}
use Rattle.levels_view.proofs.StepLemmas.{level-len}
use Rattle.levels_view.proofs.levels.LevelsView.position_after.Goals as goal

pub returns-then-next-len-clause-answer : goal.returns-then-next-len-clause-answer
returns-then-next-len-clause-answer c = λ xs b h counted. ap Some (c.moved-next.ensures xs b h counted)

pub returns-else-next-len-clause-answer : goal.returns-else-next-len-clause-answer
returns-else-next-len-clause-answer c = λ xs b h counted.
    let l = c.args.self.now in
    absurd (omega (
      arith,
      c.moved-next.ensures xs b h counted,
      moved-le (digit_position l c.args.depth) c.args.digit (level xs l.width c.args.depth) c.args.position,
      level-len xs l b h c.args.depth,
      c.len.ensures.len,
      c.if-next-len.false,
    ))
