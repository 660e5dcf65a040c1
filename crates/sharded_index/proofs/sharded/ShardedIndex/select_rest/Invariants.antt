use Rattle.std.proofs.Common.{◌≡◌, ℕ, ◌<◌, ◌≤◌, length, slice_index}
use Rattle.bitm_view.specs.Queries.{selected_by}
use Rattle.sharded_index.specs.Sharded.{SelectedIn}
use Rattle.sharded_index.proofs.sharded.ShardedIndex.select_rest.Given as goal

-- the answers so far; the others are as they were
abbrev pub invariant-loop-at : goal.invariant-loop-at
invariant-loop-at g l = record {
  long : length l.out ≡ length l.ranks;
  each : (j : ℕ) → j < l.at → SelectedIn g.S.Shard.bits g.S.Shard.right l.self l.one (slice_index l.ranks j) (selected_by (slice_index l.out j));
  rest : (j : ℕ) → l.at ≤ j → slice_index l.out j ≡ slice_index l.fn.out j;
}
