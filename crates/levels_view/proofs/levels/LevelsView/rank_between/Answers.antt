-- The number's items of the prefix stand side by side after the last level; a number of more bits than all is none.
use Rattle.std.proofs.Common.{◌≡◌, ℕ, ◌^◌, ◌<◌, ◌≤◌, Some, length, sym, subst, ◌∙◌, arith}
use Rattle.std.proofs.lemmas.Bool.{true≢false}
use Rattle.std.proofs.lemmas.Option.{none-some, same_Some}
use Rattle.bitm_tables.specs.Tables.{Lists}
use Rattle.matrix_levels.specs.Matrix.{numbers_in, IsMatrix}
use Rattle.matrix_levels.specs.Numbers.{occurrences_before}
use Rattle.matrix_levels.proofs.lemmas.WalkLemmas.{count_before-wide}
use Rattle.levels_view.proofs.PairLemmas.{few-before, rank-between}
use Rattle.levels_view.specs.Walk.{AreBothOnTheWay}
use Rattle.levels_view.proofs.levels.LevelsView.rank_between.Goals as goal
use Rattle.levels_view.proofs.levels.LevelsView.rank_between.Goals.{After-difference}

-- the number has no more bits than the width
pub returns-then-not-fits : goal.returns-then-not-fits
returns-then-not-fits c = λ lists w.
    let l = c.args.self.now in
    let P : ℕ → Type 0 = λ k. c.args.number < 2 ^ k in
    let wide : c.args.number < 2 ^ l.width → ⊥ = λ narrow. true≢false (sym (c.fits.ensures.1 (subst P (sym c.width.ensures.width) narrow)) ∙ c.if-not-fits.true) in
    record {
      inside = (omega (arith, c.if-end-len.false, c.len.ensures.len), omega arith);
      right = λ h. (
        omega (arith, c.if-end-len.false, c.len.ensures.len, h.numbers.count),
        sym (count_before-wide (numbers_in l lists) l.width c.args.number c.args.end h.numbers.fit wide),
      );
    }

counted : (c : After-difference) (lists : Lists)
    → (c.args.number < 2 ^ c.args.self.now.width
    → AreBothOnTheWay c.args.self.now lists c.args.self.now.width c.args.number 0 c.args.end c.args.first c.args.last)
    → IsMatrix c.args.self.now lists → c.difference.result ≡ Some (occurrences_before (numbers_in c.args.self.now lists) c.args.number c.args.end)
counted c lists w h =
    let l = c.args.self.now in
    let xs = numbers_in l lists in
    let x = c.args.number in
    let i = c.args.end in
    let P : ℕ → Type 0 = λ k. x < 2 ^ k in
    let fit : x < 2 ^ l.width = subst P c.width.ensures.width (c.fits.ensures.0 c.if-not-fits.false) in
    let inside : i ≤ length xs = omega (arith, c.if-end-len.false, c.len.ensures.len, h.numbers.count) in
    c.difference.ensures.answer (occurrences_before xs x i)
    (rank-between xs l.width x i c.args.first c.args.last h.numbers.fit fit inside ((w fit).first h) ((w fit).last h))
    (few-before xs x i inside)

pub returns-in-Some : goal.returns-in-Some
returns-in-Some c = λ lists w.
    let in_list : c.args.end ≤ c.args.self.now.len = omega (arith, c.if-end-len.false, c.len.ensures.len) in
    record {
      inside = (in_list, c.in-Some.ensures.inside);
      right = λ h. (
        omega (arith, in_list, h.numbers.count),
        same_Some _ _ (sym c.in-Some.is ∙ counted (goal.at.returns-in-Some c).After-difference lists (w in_list) h),
      );
    }

pub returns-in-None : goal.returns-in-None
returns-in-None c = λ lists w.
    let in_list : c.args.end ≤ c.args.self.now.len = omega (arith, c.if-end-len.false, c.len.ensures.len) in
    record {
      inside = in_list;
      right = λ h. absurd (none-some _ (sym c.in-None.is ∙ counted (goal.at.returns-in-None c).After-difference lists (w in_list) h));
    }
