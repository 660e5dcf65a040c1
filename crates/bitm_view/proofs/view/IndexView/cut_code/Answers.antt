-- A position after the bit vector says that there are no more; codes and positions before its end stay.
use Rattle.std.proofs.Common.{ap, subst, arith}
use Rattle.bitm_view.specs.Cut.{Cut, IsSizedCut}
use Rattle.bitm_view.proofs.CodeLemmas.{code_said, past_said, position_said}
use Rattle.bitm_view.proofs.view.IndexView.cut_code.Goals as goal

pub returns-then-code-self : goal.returns-then-code-self
returns-then-code-self c = λ v r claimed.
    position_said v c.args.self.now (subst (λ (x : Cut). IsSizedCut x) c.self.view_is c.self.invariant) r c.args.code claimed
    (omega (arith, c.if-code-self.true, ap (λ (x : Cut). x.len) c.self.view_is))

pub returns-then-code-lt-WRONG_TABLES : goal.returns-then-code-lt-WRONG_TABLES
returns-then-code-lt-WRONG_TABLES c = λ v r claimed.
    past_said v c.args.self.now (subst (λ (x : Cut). IsSizedCut x) c.self.view_is c.self.invariant) r c.args.code claimed
    (omega (arith, c.if-code-self.false, ap (λ (x : Cut). x.len) c.self.view_is)) (omega (arith, c.if-code-lt-WRONG_TABLES.true))

pub returns : goal.returns
returns c = λ v r claimed.
    code_said v c.args.self.now (subst (λ (x : Cut). IsSizedCut x) c.self.view_is c.self.invariant) r c.args.code claimed
    c.ranges.code.fits (omega (arith, c.if-code-lt-WRONG_TABLES.false))
