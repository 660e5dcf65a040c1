-- A number of more bits than all others is none of them, and one of no more bits goes back from the last level.
use Rattle.std.proofs.Common.{ℕ, ◌^◌, ◌<◌, length, sym, subst, ◌∙◌, arith}
use Rattle.std.proofs.lemmas.Bool.{true≢false}
use Rattle.bitm_tables.specs.Tables.{Lists}
use Rattle.matrix_levels.specs.Matrix.{level_in, numbers_in, IsMatrix}
use Rattle.matrix_levels.specs.Numbers.{PicksItem}
use Rattle.matrix_levels.proofs.lemmas.WalkLemmas.{count_before-wide}
use Rattle.levels_view.proofs.levels.LevelsView.total_select_by.Goals as goal

pub returns-then-not-fits-clause-answer : goal.returns-then-not-fits-clause-answer
returns-then-not-fits-clause-answer g c = λ h f.
    let l = c.args.self.now in
    let xs = numbers_in l (g.T.TableSource.lists c.args.source.now) in
    let P : ℕ → Type 0 = λ w. c.args.number < 2 ^ w in
    let wide : c.args.number < 2 ^ l.width → ⊥ = λ narrow. true≢false (sym (c.fits.ensures.1 (subst P (sym c.width.ensures.width) narrow)) ∙ c.if-not-fits.true) in
    omega (arith, count_before-wide xs l.width c.args.number (length xs) h.numbers.fit wide)

pub returns-in-Some-clause-answer : goal.returns-in-Some-clause-answer
returns-in-Some-clause-answer g c = λ h f.
    let l = c.args.self.now in
    let same = c.total_last_position_on.ensures.reads.same in
    let here = subst (λ (m : Lists). IsMatrix l m) (sym same) h in
    let finds = subst (λ (m : Lists). g.F.Finds.finds c.args.finder.now m) (sym same) f in
    let picked = subst (λ (m : Lists). PicksItem (level_in l m l.width) c.args.number c.args.k c.in-Found.position) (sym same) (c.in-Found.ensures.answer h) in
    subst (λ (m : Lists). PicksItem (numbers_in l m) c.args.number c.args.k c.in-Some.first) same (c.in-Some.ensures.answer c.args.k here finds picked)

pub returns-in-None-clause-answer : goal.returns-in-None-clause-answer
returns-in-None-clause-answer g c = λ h f.
    let l = c.args.self.now in
    let same = c.total_last_position_on.ensures.reads.same in
    let here = subst (λ (m : Lists). IsMatrix l m) (sym same) h in
    let finds = subst (λ (m : Lists). g.F.Finds.finds c.args.finder.now m) (sym same) f in
    let picked = subst (λ (m : Lists). PicksItem (level_in l m l.width) c.args.number c.args.k c.in-Found.position) (sym same) (c.in-Found.ensures.answer h) in
    c.in-None.ensures.answer c.args.k here finds picked
