-- Each rank that is begun is written at its position.
use Rattle.std.proofs.Common.{ℕ, ◌<◌, length, slice_index, ◌∙◌, subst, arith}
use Rattle.std.proofs.lemmas.List.{length-set}
use Rattle.bitm_select.specs.Many.{IsBegun}
use Rattle.bitm_tables.specs.Tables.{Lists}
use Rattle.bitm_select.specs.declared.many.ranks.Begun.{Begun}
use Rattle.bitm_select.proofs.lemmas.ManyLemmas.{written}
use Rattle.bitm_select.proofs.many.ranks.begin_each.Goals as goal

pub loop-k-preserved : goal.loop-k-preserved
loop-k-preserved g c =
    let i = c.loop-k.invariant in
    let e = c.begin.ensures in
    let lists = g.T.TableSource.lists c.args.source.now in
    let begun = c.loop-k.begun in
    let k = c.loop-k.k in
    let indices = c.args.indices.now in
    let is : ℕ → Begun → Type 0 = λ j d. IsBegun lists (slice_index indices j) d in
    let inside : k < length begun = omega (arith, i.enough, c.loop-k-test.true) in
    let new : is k c.begin.result = subst (λ (l : Lists). IsBegun l (slice_index indices k) c.begin.result) i.same e.begun in
    record {
      enough = omega (arith, i.enough, length-set begun k c.begin.result);
      begun = written is begun k c.begin.result inside new i.begun;
      upper = omega (arith, i.upper, e.reads.upper);
      upper_kept = omega (arith, i.upper_kept, e.reads.upper_kept);
      lower = omega (arith, i.lower, e.reads.lower);
      lower_kept = omega (arith, i.lower_kept, e.reads.lower_kept);
      words = omega (arith, i.words, e.reads.words);
      words_kept = omega (arith, i.words_kept, e.reads.words_kept);
      same = e.same ∙ i.same;
    }
