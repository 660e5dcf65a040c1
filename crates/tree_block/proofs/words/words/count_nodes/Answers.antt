-- One word more adds the letters that it does not share.
use Rattle.std.proofs.Common.{◌+◌, arith}
use Rattle.tree_block.specs.Words.{words_in}
use Rattle.tree_block.proofs.LevelLemmas.{added_more, added_none}
use Rattle.tree_block.proofs.WordLemmas.{added_below, start_inside, word_len}
use Rattle.tree_block.proofs.words.words.count_nodes.Goals as goal

pub loop-j-init : goal.loop-j-init
loop-j-init c = omega (arith, added_none (words_in c.args.bytes.now c.args.starts.now))

pub overflow_add-nodes-in-loop-j : goal.overflow_add-nodes-in-loop-j
overflow_add-nodes-in-loop-j c =
    let bytes = c.args.bytes.now in
    let starts = c.args.starts.now in
    let j = c.loop-j.j in
    omega (
      arith,
      added_below bytes starts c.requires j (omega arith),
      c.requires.rise j (omega arith),
      start_inside bytes starts c.requires (j + 1) (omega arith),
      c.loop-j.invariant,
    )

pub loop-j-preserved : goal.loop-j-preserved
loop-j-preserved c =
    let bytes = c.args.bytes.now in
    let starts = c.args.starts.now in
    let j = c.loop-j.j in
    omega (
      arith,
      added_more (words_in bytes starts) j,
      word_len bytes starts c.requires j (omega arith),
      c.shared_len.ensures.shared,
      c.loop-j.invariant,
    )
