-- The numbers that are equal stand side by side after the last level.
use Rattle.std.proofs.Common.{ℕ, ◌+◌, ◌^◌, ◌<◌, ◌≤◌, length, subst, sym, ◌∙◌, arith}
use Rattle.std.proofs.lemmas.Bool.{true≢false}
use Rattle.std.proofs.lemmas.Option.{same_Some}
use Rattle.matrix_levels.specs.Matrix.{level_in, numbers_in}
use Rattle.matrix_levels.specs.Numbers.{PicksItem}
use Rattle.matrix_levels.proofs.lemmas.WalkLemmas.{fits-where-some, level_position-inside, picked-last, rank-is}
use Rattle.levels_view.proofs.levels.LevelsView.total_nth_position_on.Goals as goal

pub returns-then-not-fits-clause-answer : goal.returns-then-not-fits-clause-answer
returns-then-not-fits-clause-answer g c = λ h some.
    let l = c.args.self.now in
    let P : ℕ → Type 0 = λ w. c.args.number < 2 ^ w in
    let narrow = fits-where-some (numbers_in l (g.T.TableSource.lists c.args.source.now)) l.width c.args.number c.args.k h.numbers.fit some in
    true≢false (sym (c.fits.ensures.1 (subst P (sym c.width.ensures.width) narrow)) ∙ c.if-not-fits.true)

pub returns-then-k-len-clause-answer : goal.returns-then-k-len-clause-answer
returns-then-k-len-clause-answer g c = λ h some.
    let l = c.args.self.now in
    let m = h.numbers in
    let xs = numbers_in l (g.T.TableSource.lists c.args.source.now) in
    let x = c.args.number in
    let fit = fits-where-some xs l.width x c.args.k m.fit some in
    let end : length xs ≤ length xs = omega arith in
    omega (
      arith,
      some,
      same_Some _ _ (c.in_ok-first.ensures.start h),
      c.if-k-len.true,
      c.len.ensures.len,
      m.count,
      rank-is xs l.width x m.fit fit (length xs) end,
      level_position-inside xs l.width x l.width (length xs) end,
    )

pub returns-clause-answer : goal.returns-clause-answer
returns-clause-answer g c = λ h some.
    let l = c.args.self.now in
    let m = h.numbers in
    let lists = g.T.TableSource.lists c.args.source.now in
    let xs = numbers_in l lists in
    let x = c.args.number in
    let fit = fits-where-some xs l.width x c.args.k m.fit some in
    subst (λ p. PicksItem (level_in l lists l.width) x c.args.k (p + c.args.k)) (sym (same_Some _ _ (c.in_ok-first.ensures.start h)))
    (picked-last xs l.width x m.fit fit c.args.k some)
