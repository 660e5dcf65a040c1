-- The sample of the rank lets the walk begin no later than the answer's entry; where there is none, nothing is picked.
use Rattle.std.proofs.Common.{◌≡◌, ◌+◌, ◌-◌, ◌*◌, ◌^◌, refl, sym, subst, arith}
use Rattle.bit_lists.proofs.lemmas.BitsLemmas.{length-bits_of}
use Rattle.bit_lists.specs.Count.{ones_before}
use Rattle.bitm_select.specs.Search.{sought_in}
use Rattle.bitm_tables.specs.Tables.{HasSizes, HasTables}
use Rattle.bitm_tables.proofs.lemmas.LengthLemmas.{sizes_of}
use Rattle.bitm_select.proofs.lemmas.SelectedLemmas.{in_entry, is_select}
use Rattle.bitm_strategies.proofs.lemmas.SampledPartLemmas.{begins_below, begins_inside, no_item, no_item_reads, position_small, selected_there, walk_reads}
use Rattle.bitm_strategies.proofs.sampled.sampled_in_part.Goals as goal

pub overflow_add-at : goal.overflow_add-at
overflow_add-at g c =
    let l = g.T.TableSource.lists c.args.source.now in
    let small =
    position_small g.row.BIT l c.args.samples.now c.args.log2 c.args.rank c.args.begin c.requires.tables c.requires.sampled
    (omega (arith, length-bits_of l.words, c.requires.short)) (omega arith) in
    record { fits = omega (arith, small) }

pub returns-then-at-samples-clause-answer : goal.returns-then-at-samples-clause-answer
returns-then-at-samples-clause-answer g c =
    no_item g.row.BIT (g.T.TableSource.lists c.args.source.now) c.args.samples.now c.args.log2 c.args.rank c.args.begin c.requires.tables
    c.requires.sampled c.if-at-samples.true

pub returns-then-at-samples-clause-reads : goal.returns-then-at-samples-clause-reads
returns-then-at-samples-clause-reads g c = λ early reads.
    no_item_reads g.row.BIT (g.T.TableSource.lists c.args.source.now) c.args.samples.now c.args.log2 c.args.rank c.args.begin c.requires.tables
    c.requires.sampled c.if-at-samples.true early (g.T.TableSource.reads c.args.source.now) reads

pub walk-entry-requires-clause-from : goal.walk-entry-requires-clause-from
walk-entry-requires-clause-from g c =
    begins_inside g.row.BIT (g.T.TableSource.lists c.args.source.now) c.args.samples.now c.args.log2 c.args.rank c.args.begin c.requires.tables
    c.requires.sampled (omega (arith, c.if-at-samples.false)) _ c.first_entry-from.result refl c.first_entry-from.ensures

pub walk-entry-requires-clause-at_most : goal.walk-entry-requires-clause-at_most
walk-entry-requires-clause-at_most g c =
    begins_below g.row.BIT (g.T.TableSource.lists c.args.source.now) c.args.samples.now c.args.log2 c.args.rank c.args.begin c.requires.tables
    c.requires.sampled (omega (arith, c.if-at-samples.false)) _ c.first_entry-from.result refl c.first_entry-from.ensures

pub returns-clause-reads : goal.returns-clause-reads
returns-clause-reads g c =
    let T = g.T.TableSource in
    let l = T.lists c.args.source.now in
    let k = c.args.begin.part in
    let left = c.args.rank - c.args.begin.items in
    let w = c.walk-entry.ensures in
    let e = c.in_packed.ensures in
    let p = c.requires.sampled in
    let total : ones_before (sought_in g.row.BIT l.words) (k * 2 ^ 32) + left ≡ c.args.rank = omega (arith, p.before_is, p.part.at_most) in
    let claimed = is_select _ _ _ c.in_packed.result (e.answer (subst HasTables (sym w.same) c.requires.tables)) in
    let selected = selected_there g.row.BIT k left c.args.rank l _ c.found.result w.same total (rw c.found.ensures claimed) in
    λ early reads.
    walk_reads g.row.BIT l c.args.samples.now c.args.log2 c.args.rank c.args.begin c.requires.tables p (omega (arith, c.if-at-samples.false))
    _ c.first_entry-from.result refl c.first_entry-from.ensures c.walk-entry.result.0 w.last w.order early (T.reads c.in_packed.new.source)
    (record {
      upper = omega (arith, e.reads, w.reads, reads);
      lower = omega (arith, e.reads, w.reads, reads, w.order);
      words = omega (arith, e.reads, w.reads, reads);
      upper_kept = omega (arith, e.reads, w.reads, reads);
      lower_kept = omega (arith, e.reads, w.reads, reads);
      words_kept = omega (arith, e.reads, w.reads, reads);
    })
    c.found.result selected (rw c.found.ensures (in_entry _ c.in_packed.result e.inside))

pub in_packed-requires-clause-sized : goal.in_packed-requires-clause-sized
in_packed-requires-clause-sized g c = subst HasSizes (sym c.walk-entry.ensures.same) (sizes_of _ c.requires.tables c.requires.short)
