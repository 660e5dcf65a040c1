-- The number's items before both indices stand side by side after the last level.
use Rattle.std.proofs.Common.{◌≡◌, ℕ, ◌^◌, ◌<◌, ◌≤◌, Some, length, sym, subst, ◌∙◌, arith}
use Rattle.std.proofs.lemmas.Bool.{true≢false}
use Rattle.std.proofs.lemmas.Option.{none-some, same_Some}
use Rattle.matrix_levels.specs.Matrix.{IsMatrix, numbers_in}
use Rattle.matrix_levels.specs.Numbers.{occurrences_before}
use Rattle.matrix_levels.proofs.lemmas.WalkLemmas.{count_before-wide}
use Rattle.levels_view.proofs.PairLemmas.{few-before, rank-between}
use Rattle.levels_view.proofs.levels.LevelsView.total_ranks_on.Goals as goal
use Rattle.levels_view.proofs.levels.LevelsView.total_ranks_on.Goals.{After-difference-2}

pub returns-then-not-fits-clause-answer : goal.returns-then-not-fits-clause-answer
returns-then-not-fits-clause-answer g c = λ h.
    let l = c.args.self.now in
    let xs = numbers_in l (g.T.TableSource.lists c.args.source.now) in
    let P : ℕ → Type 0 = λ w. c.args.number < 2 ^ w in
    let wide : c.args.number < 2 ^ l.width → ⊥ = λ narrow. true≢false (sym (c.fits.ensures.1 (subst P (sym c.width.ensures.width) narrow)) ∙ c.if-not-fits.true) in (
      omega (arith, c.if-start-len.false, c.len.ensures.len, h.numbers.count),
      omega (arith, c.if-end-len.false, c.len.ensures.len, h.numbers.count),
      sym (count_before-wide xs l.width c.args.number c.args.start h.numbers.fit wide),
      sym (count_before-wide xs l.width c.args.number c.args.end h.numbers.fit wide),
    )

start : (g : _) (c : After-difference-2 g) → IsMatrix c.args.self.now (g.T.TableSource.lists c.args.source.now)
    → c.args.start ≤ length (numbers_in c.args.self.now (g.T.TableSource.lists c.args.source.now))
start g c h = omega (arith, c.if-start-len.false, c.len.ensures.len, h.numbers.count)

end : (g : _) (c : After-difference-2 g) → IsMatrix c.args.self.now (g.T.TableSource.lists c.args.source.now)
    → c.args.end ≤ length (numbers_in c.args.self.now (g.T.TableSource.lists c.args.source.now))
end g c h = omega (arith, c.if-end-len.false, c.len.ensures.len, h.numbers.count)

fit : (g : _) (c : After-difference-2 g) → c.args.number < 2 ^ c.args.self.now.width
fit g c = let P : ℕ → Type 0 = λ w. c.args.number < 2 ^ w in subst P c.width.ensures.width (c.fits.ensures.0 c.if-not-fits.false)

before : (g : _) (c : After-difference-2 g) → IsMatrix c.args.self.now (g.T.TableSource.lists c.args.source.now)
    → c.difference.result ≡ Some (occurrences_before (numbers_in c.args.self.now (g.T.TableSource.lists c.args.source.now)) c.args.number c.args.start)
before g c h =
    let l = c.args.self.now in
    let xs = numbers_in l (g.T.TableSource.lists c.args.source.now) in
    let positions = c.in-Some.ensures.positions h in
    let within = start g c h in
    c.difference.ensures.answer (occurrences_before xs c.args.number c.args.start)
    (rank-between xs l.width c.args.number c.args.start c.in-Some.base c.in-Some.first h.numbers.fit (fit g c) within positions.0 positions.1)
    (few-before xs c.args.number c.args.start within)

through : (g : _) (c : After-difference-2 g) → IsMatrix c.args.self.now (g.T.TableSource.lists c.args.source.now)
    → c.difference-2.result ≡ Some (occurrences_before (numbers_in c.args.self.now (g.T.TableSource.lists c.args.source.now)) c.args.number c.args.end)
through g c h =
    let l = c.args.self.now in
    let xs = numbers_in l (g.T.TableSource.lists c.args.source.now) in
    let positions = c.in-Some.ensures.positions h in
    let within = end g c h in
    c.difference-2.ensures.answer (occurrences_before xs c.args.number c.args.end)
    (rank-between xs l.width c.args.number c.args.end c.in-Some.base c.in-Some.last h.numbers.fit (fit g c) within positions.0 positions.2)
    (few-before xs c.args.number c.args.end within)

pub returns-in-Some-Some-clause-answer : goal.returns-in-Some-Some-clause-answer
returns-in-Some-Some-clause-answer g c = λ h.
    let a = (goal.at.returns-in-Some-Some-clause-answer g c).After-difference-2 in (
      start g a h,
      end g a h,
      same_Some _ _ (sym c.in-Some-Some.is-0 ∙ before g a h),
      same_Some _ _ (sym c.in-Some-Some.is-1 ∙ through g a h),
    )

pub returns-in_default-2-clause-answer : goal.returns-in_default-2-clause-answer
returns-in_default-2-clause-answer g c = λ h.
    absurd (none-some _ (sym c.in_default-2.is-1 ∙ through g (goal.at.returns-in_default-2-clause-answer g c).After-difference-2 h))

pub returns-in_default-2-2-clause-answer : goal.returns-in_default-2-2-clause-answer
returns-in_default-2-2-clause-answer g c = λ h.
    absurd (none-some _ (sym c.in_default-2.is-0 ∙ before g (goal.at.returns-in_default-2-2-clause-answer g c).After-difference-2 h))
