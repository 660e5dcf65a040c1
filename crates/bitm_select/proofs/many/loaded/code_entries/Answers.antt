-- The answers are those of the records.
use Rattle.std.proofs.Common.{slice_index, subst}
use Rattle.bit_lists.specs.Count.{as_bit}
use Rattle.bitm_select.specs.Answers.{IsSelectCode}
use Rattle.bitm_tables.specs.Tables.{Lists}
use Rattle.bitm_select.proofs.many.loaded.code_entries.Goals as goal

pub returns-clause-claimed : goal.returns-clause-claimed
returns-clause-claimed g c k h =
    let ranks = c.args.ranks.now in
    let positions = c.finish_each.new.positions in
    subst (λ (l : Lists). IsSelectCode (as_bit g.row.BIT) l (slice_index ranks k) (slice_index positions k))
    c.load_each.ensures.same (c.finish_each.ensures.claimed k h)
