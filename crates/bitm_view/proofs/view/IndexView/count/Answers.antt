-- The 0 bits are those that are no 1 bits.
use Rattle.std.proofs.Common.{ap, subst, arith}
use Rattle.bitm_view.proofs.CutLemmas.{both}
use Rattle.bitm_view.specs.Cut.{Cut, IsWithin}
use Rattle.bitm_view.proofs.view.IndexView.count.Goals as goal

pub overflow_sub-result : goal.overflow_sub-result
overflow_sub-result g c =
    omega (
      arith,
      both c.args.self.now (subst (λ (x : Cut). IsWithin x) c.self.view_is c.self.invariant.within),
      c.ones-ones.ensures,
      ap (λ (x : Cut). x.len) c.self.view_is,
    )

pub returns-then-this-eq0 : goal.returns-then-this-eq0
returns-then-this-eq0 g c =
    rw c.if-this-eq0.true
    (omega (
      arith,
      both c.args.self.now (subst (λ (x : Cut). IsWithin x) c.self.view_is c.self.invariant.within),
      c.ones-ones.ensures,
      ap (λ (x : Cut). x.len) c.self.view_is,
    ))
