-- The next upper entry, or the number of all ones, summary up to the end.
use Rattle.bitm_strategies.proofs.lemmas.MadeLemmas.{next_is, total_is}
use Rattle.bitm_strategies.proofs.samples.ones_to_end.Goals as goal

pub returns-then-part-summary : goal.returns-then-part-summary
returns-then-part-summary c b t = next_is b _ _ _ _ t c.args.part c.requires.inside c.if-part-summary.true

pub returns-else-part-summary : goal.returns-else-part-summary
returns-else-part-summary c b t = total_is b _ _ _ _ t c.args.part c.requires.inside c.if-part-summary.false
