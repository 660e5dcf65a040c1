-- The ones of a word are those between its ends.
use Rattle.bitm_tables.proofs.lemmas.StretchLemmas.{word_more}
use Rattle.bitm_tables.proofs.ranking.ones_of_word.Goals as goal

pub returns-clause-count : goal.returns-clause-count
returns-clause-count g c = word_more _ c.args.at c.word.result c.requires.at c.word.type_inv c.word.ensures.item
