use Rattle.bitm_tables.proofs.lemmas.EntryLemmas.{entry-fits}
use Rattle.bitm.proofs.index_laws.entries_fit.Goals as goal

pub returns : goal.returns
returns c = entry-fits
