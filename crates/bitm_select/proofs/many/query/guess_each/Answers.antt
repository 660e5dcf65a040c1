-- Each query that is near its entry is written at its position.
use Rattle.std.proofs.Common.{◌<◌, length, slice_index, slice_index_or, sym, ◌∙◌, subst, arith}
use Rattle.std.proofs.lemmas.List.{length-set}
use Rattle.bitm_select.specs.Many.{IsInside, IsSearch}
use Rattle.bitm_tables.specs.Tables.{Lists}
use Rattle.bitm_select.proofs.lemmas.ManyLemmas.{written}
use Rattle.bitm_select.proofs.many.query.guess_each.Goals as goal

pub loop-k-preserved : goal.loop-k-preserved
loop-k-preserved g c =
    let i = c.loop-k.invariant in
    let e = c.in-Some.ensures in
    let lists = g.T.TableSource.lists c.args.source.now in
    let ranks = c.args.ranks.now in
    let queries = c.loop-k.queries in
    let k = c.loop-k.k in
    let begun = slice_index_or c.args.begun.now k (record { rest = 0; entry = 0 }) in
    let query = c.in-Some.query in
    let inside : k < length queries = omega (arith, i.enough, c.loop-k-test.true) in
    let new : IsInside g.row.BIT lists (slice_index ranks k) query 5 =
    subst (λ (l : Lists). IsInside g.row.BIT l (slice_index ranks k) query 5) i.same
    (e.search (slice_index ranks k)
    (subst (λ (l : Lists). IsSearch g.row.BIT l (slice_index ranks k) begun 21) (sym i.same)
    (c.requires.searches.each k (record { rest = 0; entry = 0 }) c.loop-k-test.true))) in
    record {
      enough = omega (arith, i.enough, length-set queries k query);
      near = written (λ j q. IsInside g.row.BIT lists (slice_index ranks j) q 5) queries k query inside new i.near;
      upper = omega (arith, i.upper, e.reads.upper);
      upper_kept = omega (arith, i.upper_kept, e.reads.upper_kept);
      lower = omega (arith, i.lower, e.reads.lower);
      lower_kept = omega (arith, i.lower_kept, e.reads.lower_kept);
      words = omega (arith, i.words, e.reads.words);
      words_kept = omega (arith, i.words_kept, e.reads.words_kept);
      same = e.same ∙ i.same;
    }
