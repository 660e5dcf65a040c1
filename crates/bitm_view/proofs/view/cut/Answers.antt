-- A position behind the content says that there are no more; one before its end is the same.
use Rattle.std.proofs.Common.{ℕ, subst, arith}
use Rattle.tables_view.specs.Counting.{Selects}
use Rattle.bitm_tables.specs.declared.answer.Answer.{Answer}
use Rattle.bitm_view.proofs.CutLemmas.{cut_found, cut_none, cut_past, cut_wrong}
use Rattle.bitm_view.proofs.view.cut.Goals as goal

pub returns-then-position-len : goal.returns-then-position-len
returns-then-position-len c = λ v cut r same within s.
    cut_found v cut within r c.in-Found.position (omega (arith, same, c.if-position-len.true))
    (subst (λ (x : Answer ℕ). Selects v cut.lists r x) c.in-Found.is s)

pub returns-else-position-len : goal.returns-else-position-len
returns-else-position-len c = λ v cut r same within s.
    cut_past v cut within r c.in-Found.position (omega (arith, same, c.if-position-len.false))
    (subst (λ (x : Answer ℕ). Selects v cut.lists r x) c.in-Found.is s)

pub returns-in-Absent : goal.returns-in-Absent
returns-in-Absent c = λ v cut r same within s. cut_none v cut within r (subst (λ (x : Answer ℕ). Selects v cut.lists r x) c.in-Absent.is s)

pub returns-in-Wrong : goal.returns-in-Wrong
returns-in-Wrong c = λ v cut r same within s.
    cut_wrong v cut within r (subst (λ (x : Answer ℕ). Selects v cut.lists r x) c.in-Wrong.is s)
