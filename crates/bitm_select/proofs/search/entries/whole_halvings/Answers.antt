use Rattle.bitm_select.proofs.lemmas.SearchLemmas.{few_halvings}
use Rattle.bitm_select.proofs.search.entries.whole_halvings.Goals as goal

pub returns-clause-few : goal.returns-clause-few
returns-clause-few c = few_halvings c.ilog2.result c.args.entries c.ilog2.ensures.power_le c.requires.few
