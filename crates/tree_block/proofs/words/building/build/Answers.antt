-- The words, their order and the room are what was tested.
use Rattle.std.proofs.Common.{◌≡◌, true, refl, subst, length}
use Rattle.tree_block.specs.Building.{CanBuild, HasTrieBlockRoom}
use Rattle.tree_block.proofs.words.building.build.Goals as goal
use Rattle.tree_block.proofs.words.building.build.Goals.{After-are_sorted}

can : (c : After-are_sorted) → c.are_sorted.result ≡ true → CanBuild c.args.bytes.now c.args.starts.now c.args.scratch.now c.args.block.now
can c sorted = record {
  are = record { words = c.in-Some.ensures.some.0 refl; sorted = c.are_sorted.ensures.0 sorted };
  room =
      subst (λ n. HasTrieBlockRoom n (length c.args.scratch.now) (length c.args.block.now)) c.in-Some.ensures.nodes (c.if-not-has_block_room.ensures.0 refl);
}

pub returns-clause-ok : goal.returns-clause-ok
returns-clause-ok c = (λ _. can (goal.at.returns-clause-ok c).After-are_sorted c.if-not-are_sorted.false, λ _. refl)

pub write_block-requires-clause-can : goal.write_block-requires-clause-can
write_block-requires-clause-can c = can (goal.at.write_block-requires-clause-can c).After-are_sorted c.if-not-are_sorted.false
