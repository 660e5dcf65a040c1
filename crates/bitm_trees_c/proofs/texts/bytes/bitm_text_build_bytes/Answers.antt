-- Where no error is answered, the text has an index, and the lengths are right.
use Rattle.std.proofs.Common.{refl}
use Rattle.bitm_trees_c.proofs.texts.bytes.bitm_text_build_bytes.Goals as goal

pub returns-in-Ok-clause-ok : goal.returns-in-Ok-clause-ok
returns-in-Ok-clause-ok c = ((λ _. c.in-Ok.ensures.ok.0 refl), (λ _. refl))
