-- Each query whose entry is found is written at its position.
use Rattle.std.proofs.Common.{ℕ, ◌<◌, length, slice_index, ap, ◌∙◌, subst, arith}
use Rattle.std.proofs.lemmas.List.{length-set}
use Rattle.bit_lists.specs.Bits.{digit_count}
use Rattle.bitm_select.specs.Many.{IsSearch}
use Rattle.bitm_tables.specs.Tables.{Lists}
use Rattle.bitm_select.specs.declared.many.query.Query.{Query}
use Rattle.bitm_select.proofs.lemmas.ManyLemmas.{written}
use Rattle.tables_view.proofs.sampled_many.SamplesViewFindsEntries.find.Goals as goal

pub loop-k-preserved : goal.loop-k-preserved
loop-k-preserved g c =
    let i = c.loop-k.invariant in
    let e = c.begin.ensures in
    let lists = g.T.TableSource.lists c.args.source.now in
    let queries = c.loop-k.queries in
    let k = c.loop-k.k in
    let ranks = c.args.ranks.now in
    let near : ℕ → Query → Type 0 = λ j q. IsSearch g.row.BIT lists (slice_index ranks j) q 0 in
    let inside : k < length queries = omega (arith, i.enough, c.loop-k-test.true) in
    let new : near k c.begin.result = subst (λ (l : Lists). IsSearch g.row.BIT l (slice_index ranks k) c.begin.result 0) i.same e.search in
    record {
      enough = omega (arith, i.enough, length-set queries k c.begin.result);
      found = written near queries k c.begin.result inside new i.found;
      upper = omega (arith, i.upper, e.reads.upper, ap (λ (l : Lists). digit_count (length l.upper)) i.same);
      upper_kept = omega (arith, i.upper_kept, e.reads.upper_kept);
      lower = omega (arith, i.lower, e.reads.lower);
      lower_kept = omega (arith, i.lower_kept, e.reads.lower_kept);
      words = omega (arith, i.words, e.reads.words);
      words_kept = omega (arith, i.words_kept, e.reads.words_kept);
      same = e.same ∙ i.same;
    }
