-- The ones of a word are those between its ends.
use Rattle.bitm_select.proofs.lemmas.HalfLemmas.{word_items}
use Rattle.bitm_select.proofs.many.loaded.items_of_word.Goals as goal

pub returns-clause-count : goal.returns-clause-count
returns-clause-count g c =
    word_items g.row.BIT (g.T.TableSource.lists c.args.source.now) c.args.at c.sought_word.result c.requires.at
    c.sought_word.type_inv c.sought_word.ensures.word
