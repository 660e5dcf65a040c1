-- Where no error is answered, the text and the scratch are as long as is allowed, and no letter is outside.
use Rattle.std.proofs.Common.{arith, refl}
use Rattle.bitm_trees_c.proofs.texts.ordering.bitm_text_order.Goals as goal

pub returns-in-Ok-clause-ok : goal.returns-in-Ok-clause-ok
returns-in-Ok-clause-ok c = ((λ _. c.in-Ok.ensures.ok.0 refl), (λ _. refl))

pub returns-in-Ok-clause-wrong : goal.returns-in-Ok-clause-wrong
returns-in-Ok-clause-wrong c =
    ((λ h. absurd (omega (arith, h))), (λ h. absurd (h.2 (c.in-Ok.ensures.ok.0 refl).2)))
