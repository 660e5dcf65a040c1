use Rattle.std.proofs.Common.{◌≡◌, ℕ, ◌<◌, ◌≤◌, length, slice_index}
use Rattle.sharded_index.specs.Sharded.{RankedIn, IfNoCode}
use Rattle.sharded_index.proofs.sharded.ShardedIndex.rank_groups.Given as goal

-- what is written is right, or a code
abbrev pub invariant-loop-shard : goal.invariant-loop-shard
invariant-loop-shard g l = record {
  long : length l.out ≡ length l.positions;
  room : length l.inside ≤ length l.ranks;
  claimed : (j : ℕ) → j < length l.positions → IfNoCode (RankedIn g.S.Shard.bits g.S.Shard.right l.self l.one (slice_index l.positions j)) (slice_index l.out j);
}
