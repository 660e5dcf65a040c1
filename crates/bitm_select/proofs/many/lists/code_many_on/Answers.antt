-- The answers of each block are those of its ranks, and the others stay.
use Rattle.std.proofs.Common.{◌≡◌, ℕ, ◌+◌, ◌-◌, ◌*◌, ◌≤◌, length, slice_index, take, drop, ap, ◌∙◌, subst, arith}
use Rattle.bit_lists.specs.Bits.{digit_count}
use Rattle.bit_lists.specs.Count.{as_bit}
use Rattle.bitm_select.specs.Answers.{IsSelectCode}
use Rattle.bitm_tables.specs.Tables.{Lists}
use Rattle.bitm_select.proofs.lemmas.ManyLemmas.{answers_follow, part_long, put_long}
use Rattle.bitm_select.proofs.many.lists.code_many_on.Goals as goal

pub select_block-requires-clause-part : goal.select_block-requires-clause-part
select_block-requires-clause-part g c = omega (arith, ap (λ (l : Lists). length l.upper) c.loop-from.invariant.same, c.requires.part)

pub loop-from-preserved : goal.loop-from-preserved
loop-from-preserved g c =
    let i = c.loop-from.invariant in
    let e = c.select_block.ensures in
    let lists = g.T.TableSource.lists c.args.source.now in
    let ranks = c.args.ranks.now in
    let from = c.loop-from.from in
    let n = c.min.result in
    let digits = digit_count (length lists.upper) + 1 in
    let few : from + n ≤ length ranks = omega (arith, c.min.ensures, c.loop-from-test.true) in
    let few_positions : from + n ≤ length c.loop-from.positions = omega (arith, few, i.long) in
    let long = part_long ranks from n few in
    let new = c.select_block.new.positions in
    let new_long : length new ≡ n = omega (arith, c.select_block.auto.positions, part_long c.loop-from.positions from n few_positions) in
    let upper =
    subst
    (λ (l : Lists).
    (g.T.TableSource.reads c.select_block.new.source).upper
    ≤ (g.T.TableSource.reads c.loop-from.source).upper
    + length (take (from + n - from) (drop from ranks)) * (digit_count (length l.upper) + 1))
    i.same e.reads.upper in
    let both : (from + n) * digits ≡ from * digits + n * digits = omega arith in
    let each = g.F.FindsEntries.lowers + 1 in
    let both_lower : each * (from + n) ≡ each * from + each * n = omega arith in
    record {
      inside = few;
      long = omega (arith, i.long, put_long from n c.loop-from.positions new few_positions new_long);
      answered =
          answers_follow (IsSelectCode (as_bit g.row.BIT) lists) from n ranks c.loop-from.positions new few_positions new_long i.answered
          (λ j h.
          subst
          (λ (l : Lists).
          IsSelectCode (as_bit g.row.BIT) l (slice_index (take (from + n - from) (drop from ranks)) j) (slice_index new j))
          i.same (e.claimed j (omega (arith, h, long))));
      upper = omega (arith, i.upper, upper, ap (λ (m : ℕ). m * digits) long, both);
      upper_kept = omega (arith, i.upper_kept, e.reads.upper_kept);
      lower = omega (arith, i.lower, e.reads.lower, ap (λ (m : ℕ). each * m) long, both_lower);
      lower_kept = omega (arith, i.lower_kept, e.reads.lower_kept);
      words = omega (arith, i.words, e.reads.words, long);
      words_kept = omega (arith, i.words_kept, e.reads.words_kept);
      same = e.same ∙ i.same;
    }
