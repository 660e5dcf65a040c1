-- What the entry packs counts what stands before it.
use Rattle.std.proofs.Common.{◌+◌, ◌*◌, ◌^◌, arith}
use Rattle.bitm_select.specs.Search.{sought_in}
use Rattle.bitm_select.proofs.lemmas.SoughtLemmas.{low_is}
use Rattle.tables_view.proofs.sampled.begun_by.Goals as goal

pub returns-then-ones_to_entry-rank-clause-begun : goal.returns-then-ones_to_entry-rank-clause-begun
returns-then-ones_to_entry-rank-clause-begun g c = λ t.
    let m = sought_in g.row.BIT (g.T.TableSource.lists c.args.source.now).words in
    let e = low_is m c.sought_entry-packed.result (c.args.part * 2 ^ 21 + c.args.low) (c.sought_entry-packed.ensures.entry t) in
    omega (arith, e, c.ones_to_entry.ensures, c.if-ones_to_entry-rank.true)
