-- All of a range are less than a bound of more bits, and else those are counted that are.
use Rattle.std.proofs.Common.{ℕ, ◌^◌, ◌<◌, ◌≤◌, length, sym, subst, ◌∙◌, arith}
use Rattle.std.proofs.lemmas.Bool.{true≢false}
use Rattle.std.proofs.lemmas.Option.{same_Some}
use Rattle.matrix_levels.specs.Matrix.{numbers_in}
use Rattle.matrix_levels.proofs.lemmas.RangeLemmas.{less-all-wide}
use Rattle.levels_view.proofs.levels.LevelsView.total_count_less_on.Goals as goal

pub returns-then-not-fits-clause-answer : goal.returns-then-not-fits-clause-answer
returns-then-not-fits-clause-answer g c = λ h.
    let l = c.args.self.now in
    let xs = numbers_in l (g.T.TableSource.lists c.args.source.now) in
    let P : ℕ → Type 0 = λ w. c.args.bound < 2 ^ w in
    let wide : c.args.bound < 2 ^ l.width → ⊥ = λ narrow. true≢false (sym (c.fits.ensures.1 (subst P (sym c.width.ensures.width) narrow)) ∙ c.if-not-fits.true) in
    let order : c.args.start ≤ c.args.end = omega arith in
    let inside : c.args.end ≤ length xs = omega (arith, h.numbers.count, c.len.ensures.len) in
    (order, inside, sym (less-all-wide xs l.width c.args.start c.args.end c.args.bound h.numbers.fit order inside wide))

pub total_less_on-requires-clause-fit : goal.total_less_on-requires-clause-fit
total_less_on-requires-clause-fit g c =
    let P : ℕ → Type 0 = λ w. c.args.bound < 2 ^ w in subst P c.width.ensures.width (c.fits.ensures.0 c.if-not-fits.false)

pub returns-in-Some-clause-answer : goal.returns-in-Some-clause-answer
returns-in-Some-clause-answer g c = λ h.
    let order : c.args.start ≤ c.args.end = omega arith in
    let inside : c.args.end ≤ length (numbers_in c.args.self.now (g.T.TableSource.lists c.args.source.now)) =
    omega (arith, h.numbers.count, c.len.ensures.len) in
    (order, inside, same_Some _ _ (c.in-Some.ensures.answer h))
