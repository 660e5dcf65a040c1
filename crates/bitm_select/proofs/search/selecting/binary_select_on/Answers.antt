-- Where the tables are right the position is the one that is sought.
use Rattle.bitm_tables.proofs.lemmas.LengthLemmas.{sizes_of}
use Rattle.bitm_select.proofs.lemmas.SelectedLemmas.{is_select}
use Rattle.bitm_select.proofs.search.selecting.binary_select_on.Goals as goal

pub search_on-requires : goal.search_on-requires
search_on-requires g c = sizes_of _ c.requires.tables c.requires.short

pub returns-clause-answer : goal.returns-clause-answer
returns-clause-answer g c = rw c.found.ensures (is_select _ _ _ _ (c.search_on.ensures.answer c.requires.tables))
