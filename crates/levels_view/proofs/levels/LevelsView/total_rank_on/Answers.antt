-- A number of more bits than all others is none of them, and one of no more bits is counted.
use Rattle.std.proofs.Common.{ℕ, ◌^◌, ◌<◌, sym, subst, ◌∙◌, arith}
use Rattle.std.proofs.lemmas.Bool.{true≢false}
use Rattle.std.proofs.lemmas.Option.{same_Some}
use Rattle.matrix_levels.specs.Matrix.{numbers_in}
use Rattle.matrix_levels.proofs.lemmas.WalkLemmas.{count_before-wide}
use Rattle.levels_view.proofs.levels.LevelsView.total_rank_on.Goals as goal

pub returns-then-not-fits-clause-answer : goal.returns-then-not-fits-clause-answer
returns-then-not-fits-clause-answer g c = λ h.
    let l = c.args.self.now in
    let m = h.numbers in
    let P : ℕ → Type 0 = λ w. c.args.number < 2 ^ w in
    let wide : c.args.number < 2 ^ l.width → ⊥ = λ narrow. true≢false (sym (c.fits.ensures.1 (subst P (sym c.width.ensures.width) narrow)) ∙ c.if-not-fits.true) in (
      omega (arith, c.if-i-len.false, c.len.ensures.len, m.count),
      sym (count_before-wide (numbers_in l (g.T.TableSource.lists c.args.source.now)) l.width c.args.number c.args.i m.fit wide),
    )

pub total_count_on-requires-clause-fit : goal.total_count_on-requires-clause-fit
total_count_on-requires-clause-fit g c =
    let P : ℕ → Type 0 = λ w. c.args.number < 2 ^ w in subst P c.width.ensures.width (c.fits.ensures.0 c.if-not-fits.false)

pub returns-in-Some-clause-answer : goal.returns-in-Some-clause-answer
returns-in-Some-clause-answer g c = λ h. (
  omega (arith, c.if-i-len.false, c.len.ensures.len, h.numbers.count),
  same_Some _ _ (c.in-Some.ensures.answer h),
)
