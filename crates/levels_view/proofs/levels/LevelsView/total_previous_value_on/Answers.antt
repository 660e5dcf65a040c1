-- The last of those that are less.
use Rattle.std.proofs.Common.{◌≡◌, ◌+◌, ◌-◌, slice_range, subst, sym, inl, inr, ⊎_elim, arith}
use Rattle.bitm_tables.specs.Tables.{Lists}
use Rattle.matrix_levels.specs.Matrix.{numbers_in, IsMatrix}
use Rattle.matrix_levels.specs.Numbers.{count_less}
use Rattle.matrix_levels.proofs.lemmas.OrderLemmas.{none-less}
use Rattle.levels_view.specs.Ranges.{IsSmallestOf}
use Rattle.levels_view.proofs.levels.LevelsView.total_previous_value_on.Goals as goal

pub returns-in-Absent-clause-answer : goal.returns-in-Absent-clause-answer
returns-in-Absent-clause-answer g c = λ h. ⊎_elim (λ late. inl late) (λ past. inr (inl past)) (c.in-Absent.ensures.answer h)

pub returns-then-less-eq0-clause-answer : goal.returns-then-less-eq0-clause-answer
returns-then-less-eq0-clause-answer g c = λ h.
    let xs = numbers_in c.args.self.now (g.T.TableSource.lists c.args.source.now) in
    inr (inr (none-less (slice_range xs c.args.start c.args.end) c.args.bound c.in-Found.less (c.in-Found.ensures.answer h).2 c.if-less-eq0.true))

pub returns-clause-answer : goal.returns-clause-answer
returns-clause-answer g c = λ h.
    let l = c.args.self.now in
    let s = c.args.start in
    let e = c.args.end in
    let xs = numbers_in l (g.T.TableSource.lists c.args.source.now) in
    let k = c.in-Found.less - 1 in
    let same = c.total_count_less_on.ensures.reads.same in
    let here = subst (λ (m : Lists). IsMatrix l m) (sym same) h in
    let some : k + 1 ≡ count_less (slice_range xs s e) c.args.bound = omega (arith, (c.in-Found.ensures.answer h).2, c.if-less-eq0.false) in
    c.before_bound.ensures.answer xs s e k some
    (subst (λ (m : Lists). IsSmallestOf (numbers_in l m) s e k c.total_quantile_on-found.result) same (c.total_quantile_on-found.ensures.answer here))

pub returns-clause-inside : goal.returns-clause-inside
returns-clause-inside g c =
    c.before_bound.ensures.inside c.args.self.now.len c.args.self.now.width c.args.start c.args.end (c.in-Found.less - 1) c.total_quantile_on-found.ensures.inside
