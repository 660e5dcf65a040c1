-- What is less than the higher bound, but not than the lower one.
use Rattle.std.proofs.Common.{◌≡◌, ◌+◌, ◌-◌, ◌≤◌, length, slice_range, subst, sym, ap, ◌∙◌, arith}
use Rattle.std.proofs.lemmas.Option.{same_Some}
use Rattle.bitm_tables.specs.Tables.{Lists}
use Rattle.matrix_levels.specs.Matrix.{numbers_in, IsMatrix}
use Rattle.matrix_levels.specs.Numbers.{count_between, count_less}
use Rattle.matrix_levels.proofs.lemmas.OrderLemmas.{between-none}
use Rattle.levels_view.proofs.NextLemmas.{between-more}
use Rattle.levels_view.proofs.levels.LevelsView.total_range_count_on.Goals as goal
use Rattle.levels_view.proofs.levels.LevelsView.total_range_count_on.Goals.{In-Found-total_count_less_on}

pub returns-then-high-low-clause-answer : goal.returns-then-high-low-clause-answer
returns-then-high-low-clause-answer g c = λ h.
    let xs = numbers_in c.args.self.now (g.T.TableSource.lists c.args.source.now) in
    let order : c.args.start ≤ c.args.end = omega arith in
    let inside : c.args.end ≤ length xs = omega (arith, h.numbers.count, c.len.ensures.len) in
    (order, inside, between-none (slice_range xs c.args.start c.args.end) c.args.low c.args.high c.if-high-low.true)

-- those below the lower bound, and those between both, are those below the higher one, and no more than the range has
counted : (g : _) (c : In-Found-total_count_less_on g) → IsMatrix c.args.self.now (g.T.TableSource.lists c.args.source.now)
    → let ys = slice_range (numbers_in c.args.self.now (g.T.TableSource.lists c.args.source.now)) c.args.start c.args.end in
    (c.in-Found-total_count_less_on.below + count_between ys c.args.low c.args.high ≡ c.in-Found.less)
    × (count_between ys c.args.low c.args.high ≤ c.args.end - c.args.start)
counted g c h =
    let l = c.args.self.now in
    let ys = slice_range (numbers_in l (g.T.TableSource.lists c.args.source.now)) c.args.start c.args.end in
    let same = c.total_count_less_on.ensures.reads.same in
    let here = subst (λ (m : Lists). IsMatrix l m) (sym same) h in
    let below : c.in-Found-total_count_less_on.below ≡ count_less ys c.args.low =
    (c.in-Found-total_count_less_on.ensures.answer here).2
    ∙ ap (λ (m : Lists). count_less (slice_range (numbers_in l m) c.args.start c.args.end) c.args.low) same in
    let sum : c.in-Found-total_count_less_on.below + count_between ys c.args.low c.args.high ≡ c.in-Found.less =
    omega (
      arith,
      below,
      (c.in-Found.ensures.answer h).2,
      between-more ys c.args.low c.args.high (omega (arith, c.if-high-low.false)),
    ) in
    (sum, omega (arith, sum, c.in-Found.ensures.inside.2))

pub returns-in-Some-clause-answer : goal.returns-in-Some-clause-answer
returns-in-Some-clause-answer g c = λ h.
    let first = c.in-Found.ensures.answer h in
    let sum = counted g (goal.at.returns-in-Some-clause-answer g c).In-Found-total_count_less_on h in
    (first.0, first.1, same_Some _ _ (c.in-Some.ensures.answer _ sum.0 sum.1))

pub returns-in-None-clause-answer : goal.returns-in-None-clause-answer
returns-in-None-clause-answer g c = λ h.
    let sum = counted g (goal.at.returns-in-None-clause-answer g c).In-Found-total_count_less_on h in
    let none = c.in-None.ensures.answer _ sum.0 sum.1 in
    cc none
