-- One word more is placed, and ends at the node to which it leads.
use Rattle.std.proofs.Common.{◌≡◌, ◌+◌, ◌-◌, ◌<◌, ℕ, List, length, slice_index, subst, ap, ◌∙◌, arith}
use Rattle.bit_lists.specs.Bits.{bits_of, item}
use Rattle.bit_lists.proofs.lemmas.BesideLemmas.{item-zeros}
use Rattle.bit_lists.proofs.lemmas.BitsLemmas.{length-bits_of}
use Rattle.tree_block.specs.Levels.{AreEnds, ArePlaced}
use Rattle.tree_block.specs.Words.{words_in}
use Rattle.tree_block.proofs.PlaceLemmas.{ends_more, none_placed, no_ends}
use Rattle.tree_block.proofs.PlacingLemmas.{ending, IsEnding}
use Rattle.tree_block.proofs.WordLemmas.{word_len}
use Rattle.tree_block.proofs.words.placing.place_words.Goals as goal
use Rattle.tree_block.proofs.words.placing.place_words.Goals.{After-place_word}

ends_at : (c : After-place_word)
    → IsEnding (words_in c.args.bytes.now c.args.starts.now) c.place_word.new.next c.loop-j.j
    (slice_index c.args.starts.now (c.loop-j.j + 1) - slice_index c.args.starts.now c.loop-j.j)
ends_at c =
    let bytes = c.args.bytes.now in
    let starts = c.args.starts.now in
    let j = c.loop-j.j in
    let inside : j + 1 < length starts = omega (arith, c.loop-j-test.true) in
    ending (words_in bytes starts) c.place_word.new.next c.place_word.new.labels c.place_word.new.parents j
    (slice_index starts (j + 1) - slice_index starts j) c.place_word.ensures.whole c.place_word.ensures.next (omega (arith, inside))
    (omega (arith, word_len bytes starts c.requires.words j inside))

pub loop-j-init : goal.loop-j-init
loop-j-init c =
    let ws = words_in c.args.bytes.now c.args.starts.now in
    record {
      whole = c.requires.whole;
      next = c.requires.next;
      placed = none_placed ws c.args.labels.now c.args.parents.now 0;
      ends =
          no_ends ws c.args.ends.now
          (λ v. ap (λ (xs : List ℕ). item (bits_of xs) v) c.requires.clear ∙ item-zeros (length c.args.ends.now) v);
    }

pub last_node-node-requires-clause-inside : goal.last_node-node-requires-clause-inside
last_node-node-requires-clause-inside c = (ends_at (goal.at.last_node-node-requires-clause-inside c).After-place_word).room

pub last_node-node-requires-clause-some : goal.last_node-node-requires-clause-some
last_node-node-requires-clause-some c = (ends_at (goal.at.last_node-node-requires-clause-some c).After-place_word).low

pub set_bit-requires : goal.set_bit-requires
set_bit-requires c =
    let at = ends_at (goal.at.set_bit-requires c).After-place_word in
    omega (arith, at.low, at.high, c.last_node-node.ensures, c.requires.room, c.loop-j.auto.ends)

pub loop-j-preserved : goal.loop-j-preserved
loop-j-preserved c =
    let ws = words_in c.args.bytes.now c.args.starts.now in
    let j = c.loop-j.j in
    let at = ends_at (goal.at.loop-j-preserved c).After-place_word in
    record {
      whole = c.place_word.ensures.whole;
      next = c.place_word.ensures.next;
      placed = c.place_word.ensures.placed;
      ends =
          ends_more ws c.loop-j.ends c.set_bit.new.words j c.last_node-node.result c.loop-j.invariant.ends c.set_bit.ensures
          (omega (arith, at.low, at.high, c.last_node-node.ensures, c.requires.room, c.loop-j.auto.ends, length-bits_of c.loop-j.ends))
          (omega (arith, at.low, at.at, c.last_node-node.ensures));
    }

pub returns-clause-placed : goal.returns-clause-placed
returns-clause-placed c =
    let ws = words_in c.args.bytes.now c.args.starts.now in
    let all : c.loop-j.j ≡ length c.args.starts.now - 1 = omega (arith, c.loop-j-test.false, c.loop-j.auto.j-end) in
    subst (λ (i : ℕ). ArePlaced ws c.loop-j.labels c.loop-j.parents i 0) all c.loop-j.invariant.placed

pub returns-clause-ends : goal.returns-clause-ends
returns-clause-ends c =
    let ws = words_in c.args.bytes.now c.args.starts.now in
    let all : c.loop-j.j ≡ length c.args.starts.now - 1 = omega (arith, c.loop-j-test.false, c.loop-j.auto.j-end) in
    subst (λ (i : ℕ). AreEnds ws c.loop-j.ends i) all c.loop-j.invariant.ends
