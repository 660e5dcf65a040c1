-- The answers of a group follow those of the groups before.
use Rattle.std.proofs.Common.{◌≡◌, ◌+◌, ◌≤◌, ◌∙◌, length, arith}
use Rattle.bitm_view.specs.Queries.{selected_by}
use Rattle.bitm_select.proofs.lemmas.ManyLemmas.{part_long, put_long}
use Rattle.bitm_numbers_c.specs.Matrix.{IsRankOfNumber}
use Rattle.bitm_numbers_c.proofs.RankListLemmas.{both_follow}
use Rattle.bitm_numbers_c.proofs.matrix.matrix_lists.rank_each.Goals as goal

pub loop-from-preserved : goal.loop-from-preserved
loop-from-preserved c =
    let i = c.loop-from.invariant in
    let from = c.loop-from.from in
    let n = c.min.result in
    let outs = c.loop-from.out in
    let new = c.rank_group.new.out in
    let some : from + n ≤ length c.args.numbers.now = omega (arith, c.min.ensures, c.loop-from-test.true) in
    let inside : from + n ≤ length outs = omega (arith, some, i.len, c.requires.room) in
    let long : length new ≡ n = c.rank_group.ensures.len ∙ part_long outs from n inside in
    record {
      inside = some;
      len = put_long from n outs new inside long ∙ i.len;
      ranks =
          both_follow (λ u v x. IsRankOfNumber u v c.args.view.now (selected_by x)) from n c.args.numbers.now c.args.indices.now outs new inside long i.ranks
          (λ j less. c.rank_group.ensures.ranks j (omega (arith, less, part_long c.args.numbers.now from n some)));
    }
