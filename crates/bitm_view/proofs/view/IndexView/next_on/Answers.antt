-- The rank of the position selects the next one.
use Rattle.std.proofs.Common.{Bool, ap, subst, arith}
use Rattle.bit_lists.specs.Count.{as_bit}
use Rattle.bitm_tables.specs.declared.answer.Answer.TheVariants.{Found}
use Rattle.bitm_view.specs.Cut.{Cut, IsWithin}
use Rattle.bitm_view.specs.Queries.{RanksIn}
use Rattle.bitm_view.proofs.NearLemmas.{next_in, next_past}
use Rattle.bitm_view.proofs.view.IndexView.next_on.Goals as goal

pub returns-then-from-self-clause-next : goal.returns-then-from-self-clause-next
returns-then-from-self-clause-next g c =
    next_past (as_bit g.row.BIT) c.args.self.now (subst (λ (x : Cut). IsWithin x) c.self.view_is c.self.invariant.within)
    c.args.from (omega (arith, c.if-from-self.true, ap (λ (x : Cut). x.len) c.self.view_is))

pub returns-in-Found-clause-next : goal.returns-in-Found-clause-next
returns-in-Found-clause-next g c =
    next_in (as_bit g.row.BIT) c.args.self.now (subst (λ (x : Cut). IsWithin x) c.self.view_is c.self.invariant.within) c.args.from
    c.in-Found.rank c.select_apart.result c.only_from.result
    (subst (λ (v : Bool). RanksIn v c.args.self.now c.args.from (Found c.in-Found.rank)) c.is_one.ensures c.in-Found.ensures.ranks)
    c.select_apart.ensures.selects c.only_from.ensures

pub returns-in-Absent-clause-next : goal.returns-in-Absent-clause-next
returns-in-Absent-clause-next g c =
    absurd (omega (arith, c.if-from-self.false, c.in-Absent.ensures.ranks.within, ap (λ (x : Cut). x.len) c.self.view_is))
