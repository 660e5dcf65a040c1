-- One query more in each turn, and all at the end.
use Rattle.std.proofs.Common.{◌≡◌, ℕ, ◌<◌, ◌≤◌, get_or, set, sym, ap, ◌∙◌, ⊎_elim, arith, get_or-set_same, get_or-set_other, ext_get_or}
use Rattle.std.proofs.lemmas.Bool.{cases_lt}
use Rattle.std.proofs.lemmas.List.{get_or_default}
use Rattle.bitm_select.specs.declared.many.query.Query.{Query}
use Rattle.bitm_select.proofs.many.query.copy_each.Goals as goal

pub loop-k-init : goal.loop-k-init
loop-k-init c = λ j d before. absurd (omega (arith, before))

pub loop-k-preserved : goal.loop-k-preserved
loop-k-preserved c = λ j d before.
    let none : Query = record { rest = 0; entry = 0 } in
    let it = get_or c.args.begun.now c.loop-k.k none in
    let copy : Query = record { rest = it.rest; entry = it.entry } in
    ⊎_elim
    (λ (less : j < c.loop-k.k). get_or-set_other c.loop-k.queries c.loop-k.k j copy d (λ (e : j ≡ c.loop-k.k). omega (arith, e, less))
    ∙ c.loop-k.invariant j d less)
    (λ (least : c.loop-k.k ≤ j).
    let here : j ≡ c.loop-k.k = omega (arith, before, least) in
    ap (λ (i : ℕ). get_or (set c.loop-k.queries c.loop-k.k copy) i d) here
    ∙ get_or-set_same c.loop-k.queries c.loop-k.k copy d (omega (arith, c.loop-k.auto.queries, c.requires, c.loop-k-test.true))
    ∙ get_or_default c.args.begun.now c.loop-k.k none d c.loop-k-test.true
    ∙ ap (λ (i : ℕ). get_or c.args.begun.now i d) (sym here))
    (cases_lt j c.loop-k.k)

pub returns : goal.returns
returns c = ext_get_or (record { rest = 0; entry = 0 }) c.loop-k.queries c.args.begun.now (omega (arith, c.loop-k.auto.queries, c.requires))
    (λ i within. c.loop-k.invariant i _ (omega (arith, within, c.loop-k-test.false, c.loop-k.auto.queries, c.requires)))
