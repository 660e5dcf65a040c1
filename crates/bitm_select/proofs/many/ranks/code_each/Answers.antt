-- Each answer is written at its position.
use Rattle.std.proofs.Common.{◌<◌, length, slice_index, ◌∙◌, subst, arith}
use Rattle.std.proofs.lemmas.List.{length-set}
use Rattle.bit_lists.specs.Count.{as_bit}
use Rattle.bitm_select.specs.Answers.{IsRankCode}
use Rattle.bitm_tables.specs.Tables.{Lists}
use Rattle.bitm_select.proofs.lemmas.ManyLemmas.{written}
use Rattle.bitm_select.proofs.many.ranks.code_each.Goals as goal

pub loop-k-preserved : goal.loop-k-preserved
loop-k-preserved g c =
    let i = c.loop-k.invariant in
    let e = c.code_rank.ensures in
    let lists = g.T.TableSource.lists c.args.source.now in
    let indices = c.args.indices.now in
    let ranks = c.loop-k.ranks in
    let k = c.loop-k.k in
    let inside : k < length ranks = omega (arith, i.long, c.loop-k-test.true) in
    let new : IsRankCode (as_bit g.row.BIT) lists (slice_index indices k) c.code_rank.result =
    subst (λ (l : Lists). IsRankCode (as_bit g.row.BIT) l (slice_index indices k) c.code_rank.result) i.same e.claimed in
    record {
      long = omega (arith, i.long, length-set ranks k c.code_rank.result);
      answered = written (λ j n. IsRankCode (as_bit g.row.BIT) lists (slice_index indices j) n) ranks k c.code_rank.result inside new i.answered;
      upper = omega (arith, i.upper, e.reads.at_most.upper);
      upper_kept = omega (arith, i.upper_kept, e.reads.at_most.upper_kept);
      lower = omega (arith, i.lower, e.reads.at_most.lower);
      lower_kept = omega (arith, i.lower_kept, e.reads.at_most.lower_kept);
      words = omega (arith, i.words, e.reads.at_most.words);
      words_kept = omega (arith, i.words_kept, e.reads.at_most.words_kept);
      same = e.reads.same ∙ i.same;
    }
