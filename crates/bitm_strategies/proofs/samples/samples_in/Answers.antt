-- A part has few items, and an interval many.
use Rattle.bitm_strategies.proofs.lemmas.MadeLemmas.{few_intervals}
use Rattle.bitm_strategies.proofs.samples.samples_in.Goals as goal

pub returns-clause-few : goal.returns-clause-few
returns-clause-few g c =
    few_intervals c.items_in.result c.args.log2 c.div_ceil.result c.requires.low c.requires.high c.items_in.ensures.few c.div_ceil.ensures
