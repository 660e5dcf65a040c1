-- The bit before the one of a node is a one where the parent has a child before it.
use Rattle.std.proofs.Common.{◌≡◌, ◌-◌, ◌+◌, ◌^◌, ◌%◌, ◌<◌, inr, sym, ap, ◌∙◌, arith}
use Rattle.bit_lists.specs.Bits.{item}
use Rattle.bitm_tables.specs.Tables.{bits_in}
use Rattle.louds.proofs.lemmas.HeldLemmas.{first_of_one, previous_of_one}
use Rattle.louds.proofs.queries.previous_sibling_by.Goals as goal

pub returns-in-Some-true-clause-answer : goal.returns-in-Some-true-clause-answer
returns-in-Some-true-clause-answer g c = λ h f.
    let position = c.in-Some.position in
    let one = c.in-Some.ensures.position h f in
    let some : 0 < c.args.node = omega (arith, c.if-node-eq0.false) in
    let behind = (one.1 some).4 in
    let at : position - 1 ≡ (position + (2 ^ 64 - 1)) % 2 ^ 64 = omega (arith, behind, c.in-Some.ensures.small) in
    previous_of_one _ _ _ h.held c.args.node position (position - 1) some one (omega (arith, behind))
    (ap (λ lists. item (bits_in lists) (position - 1)) (sym c.one_by.ensures.reads.same)
    ∙ ap (item (bits_in (g.T.TableSource.lists c.one_by.new.source))) at
    ∙ sym c.in-Some-true.ensures.answer.1
    ∙ c.in-Some-true.field-0-test)

pub returns-in-Some-false-clause-answer : goal.returns-in-Some-false-clause-answer
returns-in-Some-false-clause-answer g c = λ h f.
    let position = c.in-Some.position in
    let one = c.in-Some.ensures.position h f in
    let some : 0 < c.args.node = omega (arith, c.if-node-eq0.false) in
    let behind = (one.1 some).4 in
    let at : position - 1 ≡ (position + (2 ^ 64 - 1)) % 2 ^ 64 = omega (arith, behind, c.in-Some.ensures.small) in
    inr
    (first_of_one _ _ _ h.held c.args.node position (position - 1) some one (omega (arith, behind))
    (ap (λ lists. item (bits_in lists) (position - 1)) (sym c.one_by.ensures.reads.same)
    ∙ ap (item (bits_in (g.T.TableSource.lists c.one_by.new.source))) at
    ∙ sym c.in-Some-false.ensures.answer.1
    ∙ c.in-Some-false.field-0-test))
