-- Each search that is halved is written at its position, and the others stay.
use Rattle.std.proofs.Common.{ℕ, ◌+◌, ◌<◌, length, slice_index, slice_index_or, ap, sym, ◌∙◌, subst, arith}
use Rattle.std.proofs.lemmas.List.{length-set}
use Rattle.std.proofs.lemmas.Nat.{pow-add}
use Rattle.bitm_select.specs.Many.{IsInside, IsSearch}
use Rattle.bitm_tables.specs.Tables.{Lists}
use Rattle.bitm_select.specs.declared.many.query.Query.{Query}
use Rattle.bitm_select.proofs.lemmas.ManyLemmas.{written, unwritten}
use Rattle.bitm_select.proofs.many.query.step_each.Goals as goal

pub step-requires-clause-next : goal.step-requires-clause-next
step-requires-clause-next g c =
    let i = c.loop-k.invariant in
    omega (
      arith,
      (i.left c.loop-k.k (record { rest = 0; entry = 0 }) (omega arith) c.loop-k-test.true).inside,
      pow-add 2 c.args.size 1,
      ap (λ (l : Lists). length l.lower) i.same,
    )

pub loop-k-preserved : goal.loop-k-preserved
loop-k-preserved g c =
    let i = c.loop-k.invariant in
    let e = c.step.ensures in
    let lists = g.T.TableSource.lists c.args.source.now in
    let queries = c.loop-k.queries in
    let k = c.loop-k.k in
    let ranks = c.args.ranks.now in
    let near : ℕ → ℕ → Query → Type 0 = λ size j q. IsInside g.row.BIT lists (slice_index ranks j) q size in
    let inside : k < length queries = omega (arith, i.enough, c.loop-k-test.true) in
    let old = i.left k (record { rest = 0; entry = 0 }) (omega arith) c.loop-k-test.true in
    let new : near c.args.size k c.step.result =
    record {
      search =
          subst (λ (l : Lists). IsSearch g.row.BIT l (slice_index ranks k) c.step.result c.args.size) i.same
          (e.search (slice_index ranks k)
          (subst
          (λ (l : Lists). IsSearch g.row.BIT l (slice_index ranks k) (slice_index_or queries k (record { rest = 0; entry = 0 })) (c.args.size + 1))
          (sym i.same) old.search));
      inside = omega (arith, old.inside, e.near, pow-add 2 c.args.size 1);
    } in
    record {
      enough = omega (arith, i.enough, length-set queries k c.step.result);
      stepped = written (near c.args.size) queries k c.step.result inside new i.stepped;
      left = unwritten (near (c.args.size + 1)) queries k c.step.result inside (length ranks) i.left;
      upper = omega (arith, i.upper, e.reads.upper);
      upper_kept = omega (arith, i.upper_kept, e.reads.upper_kept);
      lower = omega (arith, i.lower, e.reads.lower);
      lower_kept = omega (arith, i.lower_kept, e.reads.lower_kept);
      words = omega (arith, i.words, e.reads.words);
      words_kept = omega (arith, i.words_kept, e.reads.words_kept);
      same = e.same ∙ i.same;
    }
