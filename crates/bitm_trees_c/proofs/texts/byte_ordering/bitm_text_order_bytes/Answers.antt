-- Where no error is answered, the text and the scratch are as long as is allowed.
use Rattle.std.proofs.Common.{refl}
use Rattle.bitm_trees_c.proofs.texts.byte_ordering.bitm_text_order_bytes.Goals as goal

pub returns-in-Ok-clause-ok : goal.returns-in-Ok-clause-ok
returns-in-Ok-clause-ok c = ((λ _. c.in-Ok.ensures.ok.0 refl), (λ _. refl))
