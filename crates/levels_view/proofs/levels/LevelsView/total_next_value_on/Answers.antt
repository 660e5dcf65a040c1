-- The number after all that are less.
use Rattle.std.proofs.Common.{subst, sym, inl, inr, ⊎_elim}
use Rattle.bitm_tables.specs.Tables.{Lists}
use Rattle.matrix_levels.specs.Matrix.{numbers_in, IsMatrix}
use Rattle.levels_view.specs.Ranges.{IsSmallestOf}
use Rattle.levels_view.proofs.levels.LevelsView.total_next_value_on.Goals as goal

pub returns-in-Absent-clause-answer : goal.returns-in-Absent-clause-answer
returns-in-Absent-clause-answer g c = λ h. ⊎_elim (λ late. inl late) (λ past. inr (inl past)) (c.in-Absent.ensures.answer h)

pub returns-clause-answer : goal.returns-clause-answer
returns-clause-answer g c = λ h.
    let l = c.args.self.now in
    let s = c.args.start in
    let e = c.args.end in
    let same = c.total_count_less_on.ensures.reads.same in
    let here = subst (λ (m : Lists). IsMatrix l m) (sym same) h in
    let count = (c.in-Found.ensures.answer h).2 in
    let found = subst (λ (m : Lists). IsSmallestOf (numbers_in l m) s e c.in-Found.less c.total_quantile_on-found.result) same (c.total_quantile_on-found.ensures.answer here) in
    let xs = numbers_in l (g.T.TableSource.lists c.args.source.now) in
    c.from_bound.ensures.answer xs s e (subst (λ k. IsSmallestOf xs s e k c.total_quantile_on-found.result) count found)

pub returns-clause-inside : goal.returns-clause-inside
returns-clause-inside g c =
    c.from_bound.ensures.inside c.args.self.now.len c.args.self.now.width c.args.start c.args.end c.in-Found.less c.total_quantile_on-found.ensures.inside
