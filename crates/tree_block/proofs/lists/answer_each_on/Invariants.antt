use Rattle.std.proofs.Common.{◌≡◌, ℕ, ◌*◌, ◌<◌, ◌≤◌, slice_index}
use Rattle.louds.specs.Counted.{OnlySelects}
use Rattle.tree_block.specs.Codes.{in_lists, IsCodeOf}
use Rattle.tree_block.proofs.lists.answer_each_on.Given as goal

-- the answers so far, the positions that are reported of the others, and what was read
abbrev pub invariant-loop-at : goal.invariant-loop-at
invariant-loop-at g l =
    let T = g.T.TableSource in
    record {
      each : (j : ℕ) → j < l.at
          → IsCodeOf (g.Q.Asks.holds (slice_index l.nodes j) (slice_index l.ks j) (in_lists l.len (T.lists l.fn.source))) (slice_index l.out j);
      behind : (j : ℕ) → l.at ≤ j → slice_index l.out j ≡ slice_index l.fn.out j;
      reads : OnlySelects T.lists T.reads l.fn.source l.source (g.Q.Asks.selects * l.at) (g.Q.Asks.words * l.at);
    }
