-- The answers of each block are those of its indices, and the others stay.
use Rattle.std.proofs.Common.{◌≡◌, ◌+◌, ◌-◌, ◌≤◌, length, slice_index, take, drop, ◌∙◌, subst, arith}
use Rattle.bit_lists.specs.Count.{as_bit}
use Rattle.bitm_select.specs.Answers.{IsRankCode}
use Rattle.bitm_tables.specs.Tables.{Lists}
use Rattle.bitm_select.proofs.lemmas.ManyLemmas.{answers_follow, part_long, put_long}
use Rattle.bitm_select.proofs.many.ranks.code_blocks.Goals as goal

pub loop-from-preserved : goal.loop-from-preserved
loop-from-preserved g c =
    let i = c.loop-from.invariant in
    let e = c.code_block.ensures in
    let lists = g.T.TableSource.lists c.args.source.now in
    let indices = c.args.indices.now in
    let from = c.loop-from.from in
    let n = c.min.result in
    let few : from + n ≤ length indices = omega (arith, c.min.ensures, c.loop-from-test.true) in
    let few_ranks : from + n ≤ length c.loop-from.ranks = omega (arith, few, i.long) in
    let long = part_long indices from n few in
    let new = c.code_block.new.ranks in
    let new_long : length new ≡ n = omega (arith, c.code_block.auto.ranks, part_long c.loop-from.ranks from n few_ranks) in
    record {
      inside = few;
      long = omega (arith, i.long, put_long from n c.loop-from.ranks new few_ranks new_long);
      room = omega (arith, i.room, c.code_block.auto.begun);
      answered =
          answers_follow (IsRankCode (as_bit g.row.BIT) lists) from n indices c.loop-from.ranks new few_ranks new_long i.answered
          (λ j h.
          subst
          (λ (l : Lists).
          IsRankCode (as_bit g.row.BIT) l (slice_index (take (from + n - from) (drop from indices)) j) (slice_index new j))
          i.same (e.claimed j (omega (arith, h, long))));
      upper = omega (arith, i.upper, e.reads.upper, long);
      upper_kept = omega (arith, i.upper_kept, e.reads.upper_kept);
      lower = omega (arith, i.lower, e.reads.lower, long);
      lower_kept = omega (arith, i.lower_kept, e.reads.lower_kept);
      words = omega (arith, i.words, e.reads.words, long);
      words_kept = omega (arith, i.words_kept, e.reads.words_kept);
      same = e.same ∙ i.same;
    }
