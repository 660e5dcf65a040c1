-- What the entry packs counts what stands before it.
use Rattle.std.proofs.Common.{◌≡◌, ◌+◌, ◌*◌, ◌^◌, ◌<◌, ◌∙◌, length, arith, lt-ltb}
use Rattle.bitm_tables.specs.Entry.{before_in_part, entries_from}
use Rattle.bitm_select.specs.Search.{sought_in}
use Rattle.bitm_select.proofs.lemmas.SoughtLemmas.{low_is}
use borrow.Author.Tests.{ltb-true}
use Rattle.tables_view.proofs.sampled.is_behind.Goals as goal

pub returns-clause-behind : goal.returns-clause-behind
returns-clause-behind g c = λ t.
    let l = g.T.TableSource.lists c.args.source.now in
    let m = sought_in g.row.BIT l.words in
    let e : c.ones_to_entry.result ≡ before_in_part m (c.args.part * 2 ^ 21 + c.args.end) =
    c.ones_to_entry.ensures ∙ low_is m c.sought_entry-packed.result (c.args.part * 2 ^ 21 + c.args.end) (c.sought_entry-packed.ensures.entry t) in
    let inside : c.args.end < entries_from (length l.lower) c.args.part = omega (arith, c.if-end-entries_of_part.false, c.entries_of_part.ensures, c.lower_len.ensures) in (
      λ yes _. omega (arith, e, ltb-true c.args.rank c.ones_to_entry.result yes),
      λ f. lt-ltb c.args.rank c.ones_to_entry.result (omega (arith, e, f inside)),
    )
