-- A number is the rank of a one, so it is below the count of ones.
use Rattle.std.proofs.Common.{◌≡◌, true, false, sym, ◌∙◌, subst, arith}
use Rattle.bit_lists.proofs.lemmas.CountLemmas.{ones_before-add-zeros_before}
use Rattle.bit_lists.specs.Count.{ones_before}
use Rattle.bitm_tables.specs.Tables.{Lists}
use Rattle.perfect_hash.proofs.lemmas.GetLemmas.{one_counted}
use Rattle.perfect_hash.proofs.asking.number_by.Goals as goal

false_true : false ≡ true → ⊥
false_true h = cc

pub returns-in-Some-clause-inside : goal.returns-in-Some-clause-inside
returns-in-Some-clause-inside g c ready =
    let query = c.args.query.now in
    let lists = g.T.TableSource.lists c.args.source.now in
    let position = c.in-Found.position in
    let is : c.in-Some.number ≡ ones_before (g.Q.Query.bits query lists) position =
    subst (λ (l : Lists). g.Q.Query.ready query l → c.in-Some.number ≡ ones_before (g.Q.Query.bits query l) position)
    c.one_by.ensures.reads.same c.in-Some.ensures.count ready in
    omega (arith, is, one_counted (g.Q.Query.bits query lists) position c.in-Found.ensures.one.1)

pub returns-in_default-clause-number : goal.returns-in_default-clause-number
returns-in_default-clause-number g c ready sizes few =
    let query = c.args.query.now in
    let lists = g.T.TableSource.lists c.args.source.now in
    let b = g.Q.Query.bits query lists in
    let position = c.in-Found.position in
    let is : c.in-Some.number ≡ ones_before b position =
    subst (λ (l : Lists). g.Q.Query.ready query l → c.in-Some.number ≡ ones_before (g.Q.Query.bits query l) position)
    c.one_by.ensures.reads.same c.in-Some.ensures.count ready in
    let less = one_counted b position c.in-Found.ensures.one.1 in
    absurd (false_true (sym c.if-is_number.false
    ∙ c.is_number.ensures.passes (λ tests. omega (arith, is, less, few tests))
    (omega (arith, is, ones_before-add-zeros_before b position (omega (arith, c.in-Found.ensures.one.0))))))
