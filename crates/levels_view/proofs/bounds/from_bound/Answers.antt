-- The number after all that are less is the least that is not.
use Rattle.std.proofs.Common.{ℕ, slice_range, refl, subst, arith}
use Rattle.bitm_tables.specs.declared.answer.Answer.{Answer}
use Rattle.matrix_levels.specs.Numbers.{count_less}
use Rattle.matrix_levels.proofs.lemmas.OrderLemmas.{next-smallest}
use Rattle.levels_view.specs.Ranges.{IsSmallestOf, IsSmallestWithin}
use Rattle.levels_view.proofs.NextLemmas.{next-none}
use Rattle.levels_view.proofs.bounds.from_bound.Goals as goal

pub returns-then-number-bound-clause-inside : goal.returns-then-number-bound-clause-inside
returns-then-number-bound-clause-inside c = λ n w s e k within.
    let is = subst (λ (a : Answer ℕ). IsSmallestWithin n w s e k a) c.in-Found.is within in (omega (arith, is.0), is.1)

pub returns-then-number-bound-clause-answer : goal.returns-then-number-bound-clause-answer
returns-then-number-bound-clause-answer c = λ xs s e found.
    let ys = slice_range xs s e in
    let is = subst (λ (a : Answer ℕ). IsSmallestOf xs s e (count_less ys c.args.bound) a) c.in-Found.is found in
    let next = next-smallest ys c.args.bound _ c.in-Found.number refl is.2 in
    omega (arith, next.1, c.if-number-bound.true)

pub returns-else-number-bound-clause-inside : goal.returns-else-number-bound-clause-inside
returns-else-number-bound-clause-inside c = λ n w s e k within.
    let is = subst (λ (a : Answer ℕ). IsSmallestWithin n w s e k a) c.in-Found.is within in
    (omega (arith, is.0), is.1, c.if-number-bound.false, is.2)

pub returns-else-number-bound-clause-answer : goal.returns-else-number-bound-clause-answer
returns-else-number-bound-clause-answer c = λ xs s e found.
    let ys = slice_range xs s e in
    let is = subst (λ (a : Answer ℕ). IsSmallestOf xs s e (count_less ys c.args.bound) a) c.in-Found.is found in
    (omega (arith, is.0), is.1, next-smallest ys c.args.bound _ c.in-Found.number refl is.2)

pub returns-in-Absent-clause-answer : goal.returns-in-Absent-clause-answer
returns-in-Absent-clause-answer c = λ xs s e found.
    next-none xs s e c.args.bound
    (subst (λ (a : Answer ℕ). IsSmallestOf xs s e (count_less (slice_range xs s e) c.args.bound) a) c.in-Absent.is found)

pub returns-in-Wrong-clause-inside : goal.returns-in-Wrong-clause-inside
returns-in-Wrong-clause-inside c = λ n w s e k within.
    let is = subst (λ (a : Answer ℕ). IsSmallestWithin n w s e k a) c.in-Wrong.is within in (omega (arith, is.0), is.1)

pub returns-in-Wrong-clause-answer : goal.returns-in-Wrong-clause-answer
returns-in-Wrong-clause-answer c = λ xs s e found.
    subst (λ (a : Answer ℕ). IsSmallestOf xs s e (count_less (slice_range xs s e) c.args.bound) a) c.in-Wrong.is found
