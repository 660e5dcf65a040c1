-- A position after the bit vector has no rank; codes and ranks of others stay.
use Rattle.std.proofs.Common.{ap, subst, arith}
use Rattle.bitm_view.specs.Cut.{Cut, IsSizedCut}
use Rattle.bitm_view.proofs.CodeLemmas.{rank_past, rank_said}
use Rattle.bitm_view.proofs.view.IndexView.cut_rank.Goals as goal

pub returns-then-position-self : goal.returns-then-position-self
returns-then-position-self c = λ v i is claimed.
    rank_past v c.args.self.now (subst (λ (x : Cut). IsSizedCut x) c.self.view_is c.self.invariant)
    i (omega (arith, is, c.if-position-self.true, ap (λ (x : Cut). x.len) c.self.view_is))

pub returns-else-position-self : goal.returns-else-position-self
returns-else-position-self c = λ v i is claimed.
    rank_said v c.args.self.now (subst (λ (x : Cut). IsSizedCut x) c.self.view_is c.self.invariant)
    i (omega (arith, is, c.if-position-self.false, ap (λ (x : Cut). x.len) c.self.view_is)) c.args.code claimed c.ranges.code.fits
