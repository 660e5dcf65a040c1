-- Where no error is answered, the text has an index, the lengths are right, no letter is outside, and the order is right.
use Rattle.std.proofs.Common.{arith, refl}
use Rattle.bitm_trees_c.proofs.texts.ordering.bitm_text_build_ordered.Goals as goal

pub returns-in-Ok-clause-ok : goal.returns-in-Ok-clause-ok
returns-in-Ok-clause-ok c = ((λ _. c.in-Ok.ensures.ok.0 refl), (λ _. refl))

pub returns-in-Ok-clause-wrong : goal.returns-in-Ok-clause-wrong
returns-in-Ok-clause-wrong c =
    let ok = c.in-Ok.ensures.ok.0 refl in
    ((λ h. absurd (omega (arith, h))), (λ h. absurd (h.4 (ok.0.known, ok.3))))
