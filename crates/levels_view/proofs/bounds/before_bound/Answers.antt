-- The last of those that are less is the greatest of them.
use Rattle.std.proofs.Common.{ℕ, ⊎_elim, inl, inr, slice_range, subst, arith}
use Rattle.bitm_tables.specs.declared.answer.Answer.{Answer}
use Rattle.matrix_levels.proofs.lemmas.OrderLemmas.{previous-smallest}
use Rattle.levels_view.specs.Ranges.{IsSmallestOf, IsSmallestWithin}
use Rattle.levels_view.proofs.NextLemmas.{previous-none}
use Rattle.levels_view.proofs.bounds.before_bound.Goals as goal

pub returns-then-number-bound-clause-inside : goal.returns-then-number-bound-clause-inside
returns-then-number-bound-clause-inside c = λ n w s e k within.
    let is = subst (λ (a : Answer ℕ). IsSmallestWithin n w s e k a) c.in-Found.is within in
    (omega (arith, is.0), is.1, c.if-number-bound.true, is.2)

pub returns-then-number-bound-clause-answer : goal.returns-then-number-bound-clause-answer
returns-then-number-bound-clause-answer c = λ xs s e k some found.
    let is = subst (λ (a : Answer ℕ). IsSmallestOf xs s e k a) c.in-Found.is found in
    (omega (arith, is.0), is.1, previous-smallest (slice_range xs s e) c.args.bound k c.in-Found.number some is.2)

pub returns-else-number-bound-clause-inside : goal.returns-else-number-bound-clause-inside
returns-else-number-bound-clause-inside c = λ n w s e k within.
    let is = subst (λ (a : Answer ℕ). IsSmallestWithin n w s e k a) c.in-Found.is within in (omega (arith, is.0), is.1)

pub returns-else-number-bound-clause-answer : goal.returns-else-number-bound-clause-answer
returns-else-number-bound-clause-answer c = λ xs s e k some found.
    let is = subst (λ (a : Answer ℕ). IsSmallestOf xs s e k a) c.in-Found.is found in
    let previous = previous-smallest (slice_range xs s e) c.args.bound k c.in-Found.number some is.2 in
    omega (arith, previous.1, c.if-number-bound.false)

pub returns-in-Absent-clause-answer : goal.returns-in-Absent-clause-answer
returns-in-Absent-clause-answer c = λ xs s e k some found.
    ⊎_elim
    (λ late. inl late)
    (λ past. inr (inl past))
    (previous-none xs s e c.args.bound k some (subst (λ (a : Answer ℕ). IsSmallestOf xs s e k a) c.in-Absent.is found))

pub returns-in-Wrong-clause-inside : goal.returns-in-Wrong-clause-inside
returns-in-Wrong-clause-inside c = λ n w s e k within.
    let is = subst (λ (a : Answer ℕ). IsSmallestWithin n w s e k a) c.in-Wrong.is within in (omega (arith, is.0), is.1)

pub returns-in-Wrong-clause-answer : goal.returns-in-Wrong-clause-answer
returns-in-Wrong-clause-answer c = λ xs s e k some found.
    subst (λ (a : Answer ℕ). IsSmallestOf xs s e k a) c.in-Wrong.is found
