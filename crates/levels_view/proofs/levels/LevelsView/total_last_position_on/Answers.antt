-- The numbers that are equal stand side by side after the last level.
use Rattle.std.proofs.Common.{◌≡◌, ◌+◌, ◌≤◌, length, subst, sym, ap, ◌∙◌, arith}
use Rattle.std.proofs.lemmas.Option.{same_Some}
use Rattle.matrix_levels.specs.Levels.{level_position}
use Rattle.matrix_levels.specs.Matrix.{level_in, numbers_in}
use Rattle.matrix_levels.specs.Numbers.{PicksItem}
use Rattle.matrix_levels.proofs.lemmas.WalkLemmas.{picked-last, rank-is}
use Rattle.levels_view.proofs.levels.LevelsView.total_last_position_on.Goals as goal

pub returns-then-count-k-clause-answer : goal.returns-then-count-k-clause-answer
returns-then-count-k-clause-answer g c = λ h.
    let l = c.args.self.now in
    let m = h.numbers in
    let xs = numbers_in l (g.T.TableSource.lists c.args.source.now) in
    let x = c.args.number in
    let stretch = same_Some _ _ (c.in-Some.ensures.stretch h) in
    let all : c.len-len.result ≡ length xs = c.len-len.ensures.len ∙ m.count in
    let last : c.in-Some.last ≡ level_position xs l.width x l.width (length xs) = ap (λ p. p.1) stretch ∙ ap (level_position xs l.width x l.width) all in
    let end : length xs ≤ length xs = omega arith in
    omega (arith, ap (λ p. p.0) stretch, last, c.saturating_sub-count.ensures, c.if-count-k.true, rank-is xs l.width x m.fit c.requires.fit (length xs) end)

pub returns-clause-answer : goal.returns-clause-answer
returns-clause-answer g c = λ h.
    let l = c.args.self.now in
    let m = h.numbers in
    let lists = g.T.TableSource.lists c.args.source.now in
    let xs = numbers_in l lists in
    let x = c.args.number in
    let stretch = same_Some _ _ (c.in-Some.ensures.stretch h) in
    let all : c.len-len.result ≡ length xs = c.len-len.ensures.len ∙ m.count in
    let first = ap (λ p. p.0) stretch in
    let last : c.in-Some.last ≡ level_position xs l.width x l.width (length xs) = ap (λ p. p.1) stretch ∙ ap (level_position xs l.width x l.width) all in
    let end : length xs ≤ length xs = omega arith in
    subst (λ p. PicksItem (level_in l lists l.width) x c.args.k (p + c.args.k)) (sym first)
    (picked-last xs l.width x m.fit c.requires.fit c.args.k
    (omega (arith, first, last, c.saturating_sub-count.ensures, c.if-count-k.false, rank-is xs l.width x m.fit c.requires.fit (length xs) end)))
