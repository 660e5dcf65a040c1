-- One node more is placed.
use Rattle.std.proofs.Common.{◌≡◌, ◌+◌, ◌-◌, ◌<◌, ◌≤◌, ℕ, List, length, get_or, set, sym, ap, subst, arith}
use Rattle.tree_block.specs.Levels.{IsNew}
use Rattle.tree_block.specs.Words.{dictionary_word, words_in}
use Rattle.tree_block.proofs.PlacingLemmas.{node_high, node_low, parent_low, placing_begin, placing_end, placing_more, room, IsPlacing}
use Rattle.tree_block.proofs.words.placing.place_word.Goals as goal
use Rattle.tree_block.proofs.words.placing.place_word.Goals.{In-loop-depth}

new_at : (c : In-loop-depth) → IsNew (words_in c.args.bytes.now c.args.starts.now) c.loop-depth.depth c.args.j
new_at c = record {
  from = omega (arith, c.shared_len-shared.ensures.shared, c.loop-depth.auto.depth);
  to = omega (arith, c.loop-depth-test.true, ap length c.word_at-word.ensures.word);
}

pub loop-depth-init : goal.loop-depth-init
loop-depth-init c =
    placing_begin (words_in c.args.bytes.now c.args.starts.now) c.args.next.now c.args.labels.now c.args.parents.now c.args.j
    c.shared_len-shared.result c.requires.whole c.requires.next c.requires.placed c.shared_len-shared.ensures.shared

pub place_node-requires-clause-inside : goal.place_node-requires-clause-inside
place_node-requires-clause-inside c =
    room (words_in c.args.bytes.now c.args.starts.now) c.loop-depth.next c.loop-depth.labels c.loop-depth.parents c.args.j c.loop-depth.depth
    c.loop-depth.invariant (omega (arith, c.requires.inside)) (new_at (goal.at.place_node-requires-clause-inside c).In-loop-depth)

pub place_node-requires-clause-some : goal.place_node-requires-clause-some
place_node-requires-clause-some c =
    let ws = words_in c.args.bytes.now c.args.starts.now in
    let new = new_at (goal.at.place_node-requires-clause-some c).In-loop-depth in
    let inside : c.args.j < length c.args.starts.now - 1 = omega (arith, c.requires.inside) in (
      parent_low ws c.loop-depth.next c.loop-depth.labels c.loop-depth.parents c.args.j c.loop-depth.depth c.loop-depth.invariant inside new,
      node_low ws c.loop-depth.next c.loop-depth.labels c.loop-depth.parents c.args.j c.loop-depth.depth c.loop-depth.invariant inside new,
    )

pub place_node-requires-clause-labels_room : goal.place_node-requires-clause-labels_room
place_node-requires-clause-labels_room c =
    omega (
      arith,
      node_high (words_in c.args.bytes.now c.args.starts.now) c.loop-depth.next c.loop-depth.labels c.loop-depth.parents c.args.j c.loop-depth.depth
          c.loop-depth.invariant (omega (arith, c.requires.inside)) (new_at (goal.at.place_node-requires-clause-labels_room c).In-loop-depth),
      c.loop-depth.invariant.whole.labels_len,
    )

pub place_node-requires-clause-parents_room : goal.place_node-requires-clause-parents_room
place_node-requires-clause-parents_room c =
    omega (
      arith,
      node_high (words_in c.args.bytes.now c.args.starts.now) c.loop-depth.next c.loop-depth.labels c.loop-depth.parents c.args.j c.loop-depth.depth
          c.loop-depth.invariant (omega (arith, c.requires.inside)) (new_at (goal.at.place_node-requires-clause-parents_room c).In-loop-depth),
      c.loop-depth.invariant.whole.parents_len,
    )

pub loop-depth-preserved : goal.loop-depth-preserved
loop-depth-preserved c =
    let ws = words_in c.args.bytes.now c.args.starts.now in
    let j = c.args.j in
    let depth = c.loop-depth.depth in
    let node = get_or c.loop-depth.next (depth + 1) 0 in
    let letter = get_or c.word_at-word.result.now depth 0 in
    let labels = set c.loop-depth.labels (node - 1) letter in
    let parents = set c.loop-depth.parents (node - 1) (get_or c.loop-depth.next depth 0 - 1) in
    subst (λ (xs : List ℕ). IsPlacing ws c.place_node.new.next xs c.place_node.new.parents j (depth + 1)) (sym c.place_node.ensures.labels)
    (subst (λ (xs : List ℕ). IsPlacing ws c.place_node.new.next labels xs j (depth + 1)) (sym c.place_node.ensures.parents)
    (subst (λ (xs : List ℕ). IsPlacing ws xs labels parents j (depth + 1)) (sym c.place_node.ensures.next)
    (placing_more ws c.loop-depth.next c.loop-depth.labels c.loop-depth.parents j depth c.loop-depth.invariant
    (omega (arith, c.requires.inside)) (new_at (goal.at.loop-depth-preserved c).In-loop-depth) letter
    (ap (λ (w : List ℕ). get_or w depth 0) c.word_at-word.ensures.word))))

pub returns-clause-next : goal.returns-clause-next
returns-clause-next c =
    let up : c.shared_len-shared.result ≤ length c.word_at-word.result.now =
    omega (arith, c.shared_len-shared.ensures.fits, c.word_at-word.ensures.len) in
    let all : c.loop-depth.depth ≡ length (dictionary_word c.args.bytes.now c.args.starts.now c.args.j) =
    omega (arith, c.loop-depth-test.false, c.loop-depth.auto.depth-end up, ap length c.word_at-word.ensures.word) in
    (placing_end (words_in c.args.bytes.now c.args.starts.now) c.loop-depth.next c.loop-depth.labels c.loop-depth.parents c.args.j
    c.loop-depth.depth c.loop-depth.invariant all).0

pub returns-clause-placed : goal.returns-clause-placed
returns-clause-placed c =
    let up : c.shared_len-shared.result ≤ length c.word_at-word.result.now =
    omega (arith, c.shared_len-shared.ensures.fits, c.word_at-word.ensures.len) in
    let all : c.loop-depth.depth ≡ length (dictionary_word c.args.bytes.now c.args.starts.now c.args.j) =
    omega (arith, c.loop-depth-test.false, c.loop-depth.auto.depth-end up, ap length c.word_at-word.ensures.word) in
    (placing_end (words_in c.args.bytes.now c.args.starts.now) c.loop-depth.next c.loop-depth.labels c.loop-depth.parents c.args.j
    c.loop-depth.depth c.loop-depth.invariant all).1
