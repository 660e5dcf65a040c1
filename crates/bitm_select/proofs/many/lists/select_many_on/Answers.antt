-- Where each rank has its item, what is reported is its position.
use Rattle.std.proofs.Common.{slice_index, arith}
use Rattle.bitm_tables.proofs.lemmas.LengthLemmas.{sizes_of}
use Rattle.bitm_select.proofs.lemmas.ManyLemmas.{some_part}
use Rattle.bitm_select.proofs.many.lists.select_many_on.Goals as goal

pub total_select_many_on-requires-clause-sized : goal.total_select_many_on-requires-clause-sized
total_select_many_on-requires-clause-sized g c = sizes_of _ c.requires.indexed.tables c.requires.indexed.short

pub total_select_many_on-requires-clause-part : goal.total_select_many_on-requires-clause-part
total_select_many_on-requires-clause-part g c =
    some_part g.row.BIT (g.T.TableSource.lists c.args.source.now) (slice_index c.args.ranks.now 0) c.requires.indexed.tables
    (c.requires.some 0 0 (omega (arith, c.if-ranks-eq0.false)))

pub returns-clause-answers : goal.returns-clause-answers
returns-clause-answers g c k h =
    (c.total_select_many_on.ensures.claimed k h).some c.requires.indexed.tables (c.requires.some k 0 h)
