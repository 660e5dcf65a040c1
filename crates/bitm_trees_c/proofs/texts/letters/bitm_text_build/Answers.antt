-- Where no error is answered, the text has an index, the lengths are right, and no letter is outside.
use Rattle.std.proofs.Common.{arith, refl}
use Rattle.bitm_trees_c.proofs.texts.letters.bitm_text_build.Goals as goal

pub returns-in-Ok-clause-ok : goal.returns-in-Ok-clause-ok
returns-in-Ok-clause-ok c = ((λ _. c.in-Ok.ensures.ok.0 refl), (λ _. refl))

pub returns-in-Ok-clause-wrong : goal.returns-in-Ok-clause-wrong
returns-in-Ok-clause-wrong c =
    ((λ h. absurd (omega (arith, h))), (λ h. absurd (h.4 (c.in-Ok.ensures.ok.0 refl).0.known)))
