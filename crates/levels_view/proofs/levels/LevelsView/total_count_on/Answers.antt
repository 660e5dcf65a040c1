-- The number's items of the prefix stand side by side after the last level.
use Rattle.std.proofs.Common.{◌≤◌, length, ap, arith}
use Rattle.std.proofs.lemmas.Option.{same_Some}
use Rattle.matrix_levels.specs.Matrix.{numbers_in}
use Rattle.matrix_levels.specs.Numbers.{occurrences_before}
use Rattle.levels_view.proofs.PairLemmas.{few-before, rank-between}
use Rattle.levels_view.proofs.levels.LevelsView.total_count_on.Goals as goal

pub returns-clause-answer : goal.returns-clause-answer
returns-clause-answer g c = λ h.
    let l = c.args.self.now in
    let xs = numbers_in l (g.T.TableSource.lists c.args.source.now) in
    let x = c.args.number in
    let i = c.args.end in
    let stretch = same_Some _ _ (c.in_ok-first.ensures.stretch h) in
    let inside : i ≤ length xs = omega (arith, c.requires.end, h.numbers.count) in
    c.difference.ensures.answer (occurrences_before xs x i)
    (rank-between xs l.width x i c.in_ok-first.first c.in_ok-first.last h.numbers.fit c.requires.fit inside (ap (λ p. p.0) stretch) (ap (λ p. p.1) stretch))
    (few-before xs x i inside)
