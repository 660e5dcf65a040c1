-- Where each index has its bits, what is reported is their number.
use Rattle.bitm_tables.proofs.lemmas.LengthLemmas.{sizes_of}
use Rattle.bitm_select.proofs.many.lists.rank_many_on.Goals as goal

pub total_rank_many_on-requires-clause-sized : goal.total_rank_many_on-requires-clause-sized
total_rank_many_on-requires-clause-sized g c = sizes_of _ c.requires.indexed.tables c.requires.indexed.short

pub returns-clause-answers : goal.returns-clause-answers
returns-clause-answers g c k h =
    ((c.total_rank_many_on.ensures.claimed k h).count c.requires.indexed.tables (c.requires.inside k 0 h)).1
