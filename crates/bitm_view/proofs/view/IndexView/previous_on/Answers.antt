-- One less than the rank of the end selects the previous one.
use Rattle.std.proofs.Common.{◌≡◌, ℕ, ◌+◌, ◌-◌, Bool, min, ap, subst, arith}
use Rattle.bit_lists.specs.Count.{as_bit}
use Rattle.bitm_view.specs.Cut.{Cut, IsWithin}
use Rattle.bitm_view.specs.Queries.{RanksIn}
use Rattle.bitm_tables.specs.declared.answer.Answer.TheVariants.{Found}
use Rattle.bitm_view.proofs.NearLemmas.{previous_in, previous_none_in}
use Rattle.bitm_view.proofs.view.IndexView.previous_on.Goals as goal
use Rattle.bitm_view.proofs.view.IndexView.previous_on.Goals.{then-from-self, else-from-self, After-rank_on}

ends : (g : _) (c : After-rank_on g) → c.if-from-self.end ≡ min (c.args.from + 1) c.args.self.now.len
ends g c =
    let same = ap (λ (x : Cut). x.len) c.self.view_is in
    elim c.if-from-self.branch [
      | then-from-self w ↦ omega (arith, same, w.if-from-self.true, w.end-is)
      | else-from-self w ↦ omega (arith, same, w.if-from-self.false, w.end-is)
    ]

within : (g : _) (c : After-rank_on g) → IsWithin c.args.self.now
within g c = subst (λ (x : Cut). IsWithin x) c.self.view_is c.self.invariant.within

pub returns-then-ranks-eq0-clause-previous : goal.returns-then-ranks-eq0-clause-previous
returns-then-ranks-eq0-clause-previous g c =
    let d = (goal.at.returns-then-ranks-eq0-clause-previous g c).After-rank_on in
    previous_none_in (as_bit g.row.BIT) c.args.self.now (within g d) c.args.from c.if-from-self.end (ends g d)
    (subst (λ (n : ℕ). RanksIn (as_bit g.row.BIT) c.args.self.now c.if-from-self.end (Found n)) c.if-ranks-eq0.true
    (subst (λ (v : Bool). RanksIn v c.args.self.now c.if-from-self.end (Found c.in-Found.ranks)) c.is_one.ensures c.in-Found.ensures.ranks))

pub returns-else-ranks-eq0-clause-previous : goal.returns-else-ranks-eq0-clause-previous
returns-else-ranks-eq0-clause-previous g c =
    let d = (goal.at.returns-else-ranks-eq0-clause-previous g c).After-rank_on in
    let back : c.in-Found.ranks ≡ c.in-Found.ranks - 1 + 1 = omega (arith, c.if-ranks-eq0.false) in
    previous_in (as_bit g.row.BIT) c.args.self.now (within g d) c.args.from c.if-from-self.end (ends g d) (c.in-Found.ranks - 1)
    c.select_apart.result c.only_before.result
    (subst (λ (n : ℕ). RanksIn (as_bit g.row.BIT) c.args.self.now c.if-from-self.end (Found n)) back
    (subst (λ (v : Bool). RanksIn v c.args.self.now c.if-from-self.end (Found c.in-Found.ranks)) c.is_one.ensures c.in-Found.ensures.ranks))
    c.select_apart.ensures.selects c.only_before.ensures

pub returns-in-Absent-clause-previous : goal.returns-in-Absent-clause-previous
returns-in-Absent-clause-previous g c =
    absurd (omega (arith, c.in-Absent.ensures.ranks.within, ends g (goal.at.returns-in-Absent-clause-previous g c).After-rank_on))
