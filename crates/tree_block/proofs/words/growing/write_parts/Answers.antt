-- What is written is the trie of the words.
use Rattle.std.proofs.Common.{ℕ, length, replicate, sym, ap, ◌∙◌, refl, arith}
use Rattle.std.proofs.lemmas.List.{length-replicate}
use Rattle.tree_block.specs.Words.{nodes_of, words_in}
use Rattle.tree_block.proofs.GrowLemmas.{ends_hold, letter_fits}
use Rattle.tree_block.proofs.PathLemmas.{are_parents}
use Rattle.tree_block.proofs.PlaceLemmas.{all_placed}
use Rattle.tree_block.proofs.TrieLemmas.{are_labels, holds_words}
use Rattle.tree_block.proofs.words.growing.write_parts.Goals as goal

pub place_words-requires-clause-whole : goal.place_words-requires-clause-whole
place_words-requires-clause-whole c = record {
  next_len = omega (arith, c.begin_levels.auto.levels, c.requires.room.degrees_len);
  labels_len = c.requires.room.labels_len;
  parents_len = c.requires.room.parents_len;
  all = c.begin_levels.ensures.all;
}

pub place_words-requires-clause-clear : goal.place_words-requires-clause-clear
place_words-requires-clause-clear c =
    c.clear.ensures
    ∙ ap (λ (n : ℕ). replicate n 0) (sym (ap length c.clear.ensures ∙ length-replicate (length c.args.ends.now) 0))

pub place_words-requires-clause-room : goal.place_words-requires-clause-room
place_words-requires-clause-room c =
    omega (
      arith,
      ends_hold (nodes_of (words_in c.args.bytes.now c.args.starts.now)) (length c.args.ends.now) c.requires.room.ends_len,
      c.clear.auto.words,
    )

pub count_children-requires-clause-parents : goal.count_children-requires-clause-parents
count_children-requires-clause-parents c =
    let ws = words_in c.args.bytes.now c.args.starts.now in
    let h = c.place_words.ensures in
    are_parents ws c.place_words.new.labels c.place_words.new.parents (nodes_of ws)
    (all_placed ws c.place_words.new.next c.place_words.new.labels c.place_words.new.parents ws.count h.whole refl h.placed)

pub count_children-requires-clause-room : goal.count_children-requires-clause-room
count_children-requires-clause-room c = omega (arith, c.place_words.ensures.whole.next_len, c.place_words.ensures.whole.parents_len)

pub returns-clause-labels : goal.returns-clause-labels
returns-clause-labels c =
    let ws = words_in c.args.bytes.now c.args.starts.now in
    let h = c.place_words.ensures in
    are_labels ws c.place_words.new.labels c.place_words.new.parents c.count_children.new.degrees
    (all_placed ws c.place_words.new.next c.place_words.new.labels c.place_words.new.parents ws.count h.whole refl h.placed)
    c.count_children.ensures.parents h.whole.all c.count_children.ensures.tree c.requires.words.sorted
    (letter_fits c.args.bytes.now c.args.starts.now (λ k. omega (arith, c.type_inv.bytes k)))

pub returns-clause-words : goal.returns-clause-words
returns-clause-words c =
    let ws = words_in c.args.bytes.now c.args.starts.now in
    let h = c.place_words.ensures in
    holds_words ws c.place_words.new.labels c.place_words.new.parents c.count_children.new.degrees
    (all_placed ws c.place_words.new.next c.place_words.new.labels c.place_words.new.parents ws.count h.whole refl h.placed)
    c.count_children.ensures.parents h.whole.all c.place_words.new.ends h.ends
