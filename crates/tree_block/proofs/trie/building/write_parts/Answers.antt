-- All is cleared, and each section is written where the block has it.
use Rattle.std.proofs.Common.{◌≡◌, ◌-◌, ◌*◌, ◌^◌, ◌<◌, ◌≤◌, ◌∷◌, length, take, drop, replicate, sym, ap, ◌∙◌, arith}
use Rattle.std.proofs.lemmas.List.{drop-replicate, take-replicate}
use Rattle.std.proofs.lemmas.List.Elements.{All-tail}
use Rattle.std.specs.Int.{div_ceil}
use Rattle.louds.specs.Labels.{numbers_of}
use Rattle.tree_block.proofs.TrieBlockLemmas.{stands}
use Rattle.tree_block.proofs.LabelLemmas.{bits_few}
use Rattle.tree_block.proofs.trie.building.write_parts.Goals as goal

pub write_tree-requires-clause-clear : goal.write_tree-requires-clause-clear
write_tree-requires-clause-clear c =
    let all = length c.args.block.now in
    let w = c.of-lens.result.words in
    let r = c.aligned.result in
    let room : r ≤ all - 40 = omega (arith, c.of-lens.ensures.words, c.aligned.ensures, c.requires.room) in
    let some : w ≤ r = omega (arith, c.aligned.ensures) in
    c.split_at_mut-words.ensures.front
    ∙ ap (take w)
    (c.split_at_mut-room.ensures.front
    ∙ ap (take r) (c.split_at_mut-head.ensures.back ∙ ap (drop 40) c.clear.ensures ∙ drop-replicate 40 all 0)
    ∙ take-replicate r (all - 40) 0 room)
    ∙ take-replicate w r 0 some
    ∙ ap (λ k. replicate k 0) c.of-lens.ensures.words

pub write_numbers-requires-clause-room : goal.write_numbers-requires-clause-room
write_numbers-requires-clause-room c =
    let trie = c.requires.trie in
    let count : length c.args.labels.now ≡ length c.args.degrees.now - 1 = omega (arith, trie.are_labels.count) in
    record {
      some = trie.shape.some;
      few = trie.shape.most;
      short = omega (arith, bits_few (length c.args.degrees.now) c.args.width trie.shape, ap (λ n. n * c.args.width) count);
      tight =
          omega (arith, c.split_at_mut-label_part.ensures.front_len, c.label_words-labels_len.ensures.words)
          ∙ ap (λ n. div_ceil (n * c.args.width) 64) (sym count);
    }

pub write_numbers-requires-clause-fit : goal.write_numbers-requires-clause-fit
write_numbers-requires-clause-fit c = All-tail (λ x. x < 2 ^ c.args.width) 0 c.args.labels.now c.requires.trie.are_labels.fit

pub returns : goal.returns
returns c =
    let d = c.args.degrees.now in
    let ls = c.args.labels.now in
    let width = c.args.width in
    let at = c.of-lens.ensures in
    let tree = c.write_tree.ensures in
    let len = c.label_words-labels_len.ensures.words in
    let count : length d - 1 ≡ length ls = omega (arith, c.requires.trie.are_labels.count) in
    let labels_len : length c.write_numbers.new.words ≡ c.label_words-labels_len.result =
    omega (arith, c.write_numbers.ensures.len, c.split_at_mut-label_part.ensures.front_len) in
    let ends_len = ap length c.copy_items.ensures in
    stands d ls width c.args.ends.now c.split_at_mut-head.result.0.now c.write_tree.new.words c.split_at_mut-words.result.1.now
    c.write_tree.new.upper c.split_at_mut-upper.result.1.now c.write_tree.new.lower c.split_at_mut-lower.result.1.now
    c.write_numbers.new.words c.split_at_mut-label_part.result.1.now c.copy_items.new.to c.split_at_mut-end_part.result.1.now
    c.write_tree.new.hints c.split_at_mut-hints.result.1.now c.split_at_mut-head.ensures.front_len (
      tree.words_len,
      omega (arith, tree.words_len, at.words, c.split_at_mut-words.ensures.back_len, c.split_at_mut-room.ensures.front_len, c.aligned.ensures),
      (
        tree.upper_len,
        omega (arith, tree.upper_len, at.upper, c.split_at_mut-upper.ensures.back_len, c.split_at_mut-room-2.ensures.front_len, c.aligned-2.ensures),
        (
          tree.lower_len,
          omega (arith, tree.lower_len, at.lower, c.split_at_mut-lower.ensures.back_len, c.split_at_mut-room-3.ensures.front_len, c.aligned-3.ensures),
          (
            labels_len ∙ len,
            omega (arith, labels_len, len, c.split_at_mut-label_part.ensures.back_len, c.split_at_mut-room-4.ensures.front_len, c.aligned-4.ensures),
            (
              ends_len,
              omega (arith, ends_len, c.split_at_mut-end_part.ensures.back_len, c.split_at_mut-room-5.ensures.front_len, c.aligned-5.ensures),
              (
                tree.hints_len,
                omega (
                  arith,
                  tree.hints_len,
                  at.words,
                  at.upper,
                  at.lower,
                  at.hints,
                  len,
                  c.split_at_mut-hints.ensures.back_len,
                  c.split_at_mut-room-5.ensures.back_len,
                  c.split_at_mut-room-4.ensures.back_len,
                  c.split_at_mut-room-3.ensures.back_len,
                  c.split_at_mut-room-2.ensures.back_len,
                  c.split_at_mut-room.ensures.back_len,
                  c.split_at_mut-head.ensures.back_len,
                  ap length c.clear.ensures,
                  c.aligned.ensures,
                  c.aligned-2.ensures,
                  c.aligned-3.ensures,
                  c.aligned-4.ensures,
                  c.aligned-5.ensures,
                  c.requires.room,
                ),
                tt,
              ),
            ),
          ),
        ),
      ),
    )
    (record {
      tree = tree;
      labels_held = record {
        len = labels_len ∙ len;
        held = ap (λ k. 0 ∷ numbers_of c.write_numbers.new.words width k) count ∙ ap (λ xs. 0 ∷ xs) c.write_numbers.ensures.numbers;
      };
      ends_kept = c.copy_items.ensures;
    })
