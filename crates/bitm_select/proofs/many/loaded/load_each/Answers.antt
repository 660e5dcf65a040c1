-- Each record that is loaded is written at its position.
use Rattle.std.proofs.Common.{◌<◌, length, slice_index, slice_index_or, ap, sym, ◌∙◌, subst, arith}
use Rattle.std.proofs.lemmas.List.{length-set}
use Rattle.bitm_select.specs.Many.{IsInRecord, IsSearch}
use Rattle.bitm_tables.specs.Tables.{Lists}
use Rattle.bitm_select.proofs.lemmas.ManyLemmas.{written}
use Rattle.bitm_select.proofs.many.loaded.load_each.Goals as goal

pub load-requires-clause-entry : goal.load-requires-clause-entry
load-requires-clause-entry g c =
    omega (
      arith,
      (c.requires.searches.each c.loop-k.k (record { rest = 0; entry = 0 }) c.loop-k-test.true).entry,
      ap (λ (l : Lists). length l.lower) c.loop-k.invariant.same,
    )

pub loop-k-preserved : goal.loop-k-preserved
loop-k-preserved g c =
    let i = c.loop-k.invariant in
    let e = c.load.ensures in
    let lists = g.T.TableSource.lists c.args.source.now in
    let ranks = c.args.ranks.now in
    let records = c.loop-k.records in
    let k = c.loop-k.k in
    let query = slice_index_or c.args.queries.now k (record { rest = 0; entry = 0 }) in
    let inside : k < length records = omega (arith, i.enough, c.loop-k-test.true) in
    let new : IsInRecord g.row.BIT lists (slice_index ranks k) c.load.result =
    subst (λ (l : Lists). IsInRecord g.row.BIT l (slice_index ranks k) c.load.result) i.same
    (e.in_record (slice_index ranks k)
    (subst (λ (l : Lists). IsSearch g.row.BIT l (slice_index ranks k) query 0) (sym i.same)
    (c.requires.searches.each k (record { rest = 0; entry = 0 }) c.loop-k-test.true))) in
    record {
      enough = omega (arith, i.enough, length-set records k c.load.result);
      loaded = written (λ j r. IsInRecord g.row.BIT lists (slice_index ranks j) r) records k c.load.result inside new i.loaded;
      upper = omega (arith, i.upper, e.reads.upper);
      upper_kept = omega (arith, i.upper_kept, e.reads.upper_kept);
      lower = omega (arith, i.lower, e.reads.lower);
      lower_kept = omega (arith, i.lower_kept, e.reads.lower_kept);
      words = omega (arith, i.words, e.reads.words);
      words_kept = omega (arith, i.words_kept, e.reads.words_kept);
      same = e.same ∙ i.same;
    }
