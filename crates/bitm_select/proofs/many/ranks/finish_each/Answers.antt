-- Each answer is written at its position.
use Rattle.std.proofs.Common.{◌<◌, length, slice_index, slice_index_or, sym, ◌∙◌, subst, arith}
use Rattle.std.proofs.lemmas.List.{length-set}
use Rattle.bit_lists.specs.Count.{as_bit}
use Rattle.bitm_select.specs.Answers.{IsRankCode}
use Rattle.bitm_select.specs.Many.{IsBegun}
use Rattle.bitm_tables.specs.Tables.{Lists}
use Rattle.bitm_select.proofs.lemmas.ManyLemmas.{written}
use Rattle.bitm_select.proofs.many.ranks.finish_each.Goals as goal

pub code_begun-requires-clause-begun : goal.code_begun-requires-clause-begun
code_begun-requires-clause-begun g c =
    let k = c.loop-k.k in
    let begun = slice_index_or c.args.begun.now k (record { entry = 0; first = 0; word = 0 }) in
    subst (λ (l : Lists). IsBegun l (slice_index c.args.indices.now k) begun) (sym c.loop-k.invariant.same)
    (c.requires.begun.each k (record { entry = 0; first = 0; word = 0 }) c.loop-k-test.true)

pub loop-k-preserved : goal.loop-k-preserved
loop-k-preserved g c =
    let i = c.loop-k.invariant in
    let e = c.code_begun.ensures in
    let lists = g.T.TableSource.lists c.args.source.now in
    let indices = c.args.indices.now in
    let ranks = c.loop-k.ranks in
    let k = c.loop-k.k in
    let inside : k < length ranks = omega (arith, i.enough, c.loop-k-test.true) in
    let new : IsRankCode (as_bit g.row.BIT) lists (slice_index indices k) c.code_begun.result =
    subst (λ (l : Lists). IsRankCode (as_bit g.row.BIT) l (slice_index indices k) c.code_begun.result) i.same e.claimed in
    record {
      enough = omega (arith, i.enough, length-set ranks k c.code_begun.result);
      answered = written (λ j n. IsRankCode (as_bit g.row.BIT) lists (slice_index indices j) n) ranks k c.code_begun.result inside new i.answered;
      upper = omega (arith, i.upper, e.reads.upper);
      upper_kept = omega (arith, i.upper_kept, e.reads.upper_kept);
      lower = omega (arith, i.lower, e.reads.lower);
      lower_kept = omega (arith, i.lower_kept, e.reads.lower_kept);
      words = omega (arith, i.words, e.reads.words);
      words_kept = omega (arith, i.words_kept, e.reads.words_kept);
      same = e.same ∙ i.same;
    }
