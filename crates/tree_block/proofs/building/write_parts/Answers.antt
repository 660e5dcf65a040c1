-- All is cleared, and each section is written where the block has it.
use Rattle.std.proofs.Common.{◌-◌, ◌≤◌, length, take, drop, replicate, ap, ◌∙◌, arith}
use Rattle.std.proofs.lemmas.List.{drop-replicate, take-replicate}
use Rattle.tree_block.proofs.BlockLemmas.{stands}
use Rattle.tree_block.proofs.building.write_parts.Goals as goal

pub write_tree-requires-clause-clear : goal.write_tree-requires-clause-clear
write_tree-requires-clause-clear c =
    let all = length c.args.block.now in
    let w = c.of-lens.result.words in
    let r = c.aligned.result in
    let room : r ≤ all - 32 = omega (arith, c.of-lens.ensures.words, c.aligned.ensures, c.requires.room) in
    let some : w ≤ r = omega (arith, c.aligned.ensures) in
    c.split_at_mut-words.ensures.front
    ∙ ap (take w)
    (c.split_at_mut-room.ensures.front
    ∙ ap (take r) (c.split_at_mut-head.ensures.back ∙ ap (drop 32) c.clear.ensures ∙ drop-replicate 32 all 0)
    ∙ take-replicate r (all - 32) 0 room)
    ∙ take-replicate w r 0 some
    ∙ ap (λ k. replicate k 0) c.of-lens.ensures.words

pub returns : goal.returns
returns c =
    let at = c.of-lens.ensures in
    stands c.args.degrees.now c.split_at_mut-head.result.0.now c.write_tree.new.words c.split_at_mut-words.result.1.now c.write_tree.new.upper
    c.split_at_mut-upper.result.1.now c.write_tree.new.lower c.split_at_mut-lower.result.1.now c.write_tree.new.hints c.split_at_mut-hints.result.1.now
    (record {
      head_len = c.split_at_mut-head.ensures.front_len;
      words_len = c.write_tree.ensures.words_len;
      gap_len =
          omega (arith, c.split_at_mut-words.ensures.back_len, c.split_at_mut-room.ensures.front_len, c.aligned.ensures, at.words);
      upper_len = c.write_tree.ensures.upper_len;
      gap2_len =
          omega (arith, c.split_at_mut-upper.ensures.back_len, c.split_at_mut-room-2.ensures.front_len, c.aligned-2.ensures, at.upper);
      lower_len = c.write_tree.ensures.lower_len;
      gap3_len =
          omega (arith, c.split_at_mut-lower.ensures.back_len, c.split_at_mut-room-3.ensures.front_len, c.aligned-3.ensures, at.lower);
      hints_len = c.write_tree.ensures.hints_len;
    })
    c.write_tree.ensures
