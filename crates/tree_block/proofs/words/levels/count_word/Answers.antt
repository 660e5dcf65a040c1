-- One node more is counted.
use Rattle.std.proofs.Common.{◌+◌, ◌-◌, ◌<◌, ◌≤◌, ℕ, List, length, slice_index, sym, subst, arith}
use Rattle.tree_block.specs.Words.{words_in}
use Rattle.tree_block.proofs.CountLemmas.{counting_begin, counting_end, counting_more, count_fits, IsCounting}
use Rattle.tree_block.proofs.OrderLemmas.{word_inside}
use Rattle.tree_block.proofs.WordLemmas.{added_below, start_inside, word_len}
use Rattle.tree_block.proofs.words.levels.count_word.Goals as goal

pub loop-depth-init : goal.loop-depth-init
loop-depth-init c =
    counting_begin (words_in c.args.bytes.now c.args.starts.now) c.args.levels.now c.args.j c.shared_len-shared.result c.requires.counts
    c.requires.total c.shared_len-shared.ensures.shared

pub count_node-requires-clause-inside : goal.count_node-requires-clause-inside
count_node-requires-clause-inside c =
    let bytes = c.args.bytes.now in
    let starts = c.args.starts.now in
    omega (
      arith,
      word_len bytes starts c.requires.words c.args.j c.requires.inside,
      word_inside (words_in bytes starts) c.args.j (omega (arith, c.requires.inside)),
      c.requires.room,
      c.loop-depth.auto.levels,
      c.loop-depth-test.true,
    )

pub count_node-requires-clause-few : goal.count_node-requires-clause-few
count_node-requires-clause-few c =
    let bytes = c.args.bytes.now in
    let starts = c.args.starts.now in
    let j = c.args.j in
    let len = word_len bytes starts c.requires.words j c.requires.inside in
    let room : c.loop-depth.depth + 1 < length c.loop-depth.levels = omega (
      arith,
      len,
      word_inside (words_in bytes starts) j (omega (arith, c.requires.inside)),
      c.requires.room,
      c.loop-depth.auto.levels,
      c.loop-depth-test.true,
    ) in
    omega (
      arith,
      count_fits (words_in bytes starts) c.loop-depth.levels j c.loop-depth.depth c.loop-depth.invariant room,
      added_below bytes starts c.requires.words j (omega (arith, c.requires.inside)),
      c.shared_len-shared.ensures.shared,
      c.loop-depth.auto.depth,
      c.loop-depth-test.true,
      c.requires.words.rise j c.requires.inside,
      start_inside bytes starts c.requires.words (j + 1) c.requires.inside,
    )

pub loop-depth-preserved : goal.loop-depth-preserved
loop-depth-preserved c =
    let bytes = c.args.bytes.now in
    let starts = c.args.starts.now in
    let ws = words_in bytes starts in
    let j = c.args.j in
    let depth = c.loop-depth.depth in
    let len = word_len bytes starts c.requires.words j c.requires.inside in
    subst (λ (xs : List ℕ). IsCounting ws xs j (depth + 1)) (sym c.count_node.ensures)
    (counting_more ws c.loop-depth.levels j depth c.loop-depth.invariant
    (omega (
      arith,
      len,
      word_inside ws j (omega (arith, c.requires.inside)),
      c.requires.room,
      c.loop-depth.auto.levels,
      c.loop-depth-test.true,
    ))
    (record {
      from = omega (arith, c.shared_len-shared.ensures.shared, c.loop-depth.auto.depth);
      to = omega (arith, len, c.loop-depth-test.true);
    }))

pub returns-clause-counts : goal.returns-clause-counts
returns-clause-counts c =
    let bytes = c.args.bytes.now in
    let starts = c.args.starts.now in
    let j = c.args.j in
    let len = word_len bytes starts c.requires.words j c.requires.inside in
    let up : c.shared_len-shared.result ≤ slice_index starts (j + 1) - slice_index starts j = omega (arith, c.shared_len-shared.ensures.fits) in
    (counting_end (words_in bytes starts) c.loop-depth.levels j c.loop-depth.depth c.loop-depth.invariant
    (omega (arith, len, c.loop-depth-test.false, c.loop-depth.auto.depth-end up))).0

pub returns-clause-total : goal.returns-clause-total
returns-clause-total c =
    let bytes = c.args.bytes.now in
    let starts = c.args.starts.now in
    let j = c.args.j in
    let len = word_len bytes starts c.requires.words j c.requires.inside in
    let up : c.shared_len-shared.result ≤ slice_index starts (j + 1) - slice_index starts j = omega (arith, c.shared_len-shared.ensures.fits) in
    (counting_end (words_in bytes starts) c.loop-depth.levels j c.loop-depth.depth c.loop-depth.invariant
    (omega (arith, len, c.loop-depth-test.false, c.loop-depth.auto.depth-end up))).1
