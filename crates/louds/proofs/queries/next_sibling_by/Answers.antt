-- The bit after the one of a node is a one where the parent has a further child.
use Rattle.std.proofs.Common.{◌+◌, inr, sym, ap, ◌∙◌, arith}
use Rattle.bit_lists.specs.Bits.{item}
use Rattle.bitm_tables.specs.Tables.{bits_in}
use Rattle.louds.proofs.lemmas.HeldLemmas.{last_of_one, next_of_one}
use Rattle.louds.proofs.lemmas.LabelLemmas.{child_inside}
use Rattle.louds.proofs.queries.next_sibling_by.Goals as goal

pub returns-in-Some-true-clause-answer : goal.returns-in-Some-true-clause-answer
returns-in-Some-true-clause-answer g c = λ h f.
    next_of_one _ _ _ h.held c.args.node c.in-Some.position c.if-node-len.false (c.in-Some.ensures.position h f)
    (ap (λ lists. item (bits_in lists) (c.in-Some.position + 1)) (sym c.one_by.ensures.reads.same)
    ∙ sym c.in-Some-true.ensures.answer.1
    ∙ c.in-Some-true.field-0-test)

pub returns-in-Some-false-clause-answer : goal.returns-in-Some-false-clause-answer
returns-in-Some-false-clause-answer g c = λ h f.
    inr
    (last_of_one _ _ _ h.held c.args.node c.in-Some.position c.if-node-len.false (c.in-Some.ensures.position h f)
    (ap (λ lists. item (bits_in lists) (c.in-Some.position + 1)) (sym c.one_by.ensures.reads.same)
    ∙ sym c.in-Some-false.ensures.answer.1
    ∙ c.in-Some-false.field-0-test))

pub returns-in_default-bit_on-clause-answer : goal.returns-in_default-bit_on-clause-answer
returns-in_default-bit_on-clause-answer g c = λ h f.
    let next =
    next_of_one _ _ _ h.held c.args.node c.in-Some.position c.if-node-len.false (c.in-Some.ensures.position h f)
    (ap (λ lists. item (bits_in lists) (c.in-Some.position + 1)) (sym c.one_by.ensures.reads.same)
    ∙ sym c.in-Some-true.ensures.answer.1
    ∙ c.in-Some-true.field-0-test) in
    omega (arith, child_inside _ _ _ _ h.held.tree next.3, h.held.count, c.if-node-len-2.false)
