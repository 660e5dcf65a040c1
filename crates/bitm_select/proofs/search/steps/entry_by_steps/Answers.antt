-- The entry at the guess shows on which side of it the sought one is.
use Rattle.std.proofs.Common.{ℕ, ◌+◌, ◌*◌, ◌^◌, ◌≤◌, sym, ◌∙◌, subst}
use Rattle.bitm_tables.specs.Entry.{before_in_part}
use Rattle.bitm_select.specs.Search.{sought_in}
use Rattle.bitm_tables.specs.Tables.{HasTables, Lists}
use Rattle.bitm_select.proofs.lemmas.SoughtLemmas.{low_is}
use Rattle.bitm_select.proofs.search.steps.entry_by_steps.Goals as goal

pub steps_on-requires-clause-at_most : goal.steps_on-requires-clause-at_most
steps_on-requires-clause-at_most g c = λ t.
    let lists = g.T.TableSource.lists c.args.source.now in
    let same = c.sought_entry-packed.ensures.same in
    let at = c.args.part * 2 ^ 21 + c.min-at.result in
    let count =
    c.ones_to_entry.ensures
    ∙ low_is (sought_in g.row.BIT lists.words) c.sought_entry-packed.result at (c.sought_entry-packed.ensures.entry (subst HasTables same t)) in
    subst (λ (l : Lists). before_in_part (sought_in g.row.BIT l.words) at ≤ c.args.rank) (sym same)
    (subst (λ (n : ℕ). n ≤ c.args.rank) count c.if-ones_to_entry-rank.true)
