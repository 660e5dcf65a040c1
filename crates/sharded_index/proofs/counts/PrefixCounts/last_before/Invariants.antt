use Rattle.std.proofs.Common.{length}
use Rattle.bitm_select.specs.Search.{Between}
use Rattle.sharded_index.specs.Prefixes.{claimed}
use Rattle.sharded_index.proofs.counts.PrefixCounts.last_before.Given as goal

-- the last shard is among those that are left
abbrev pub invariant-loop-left : goal.invariant-loop-left
invariant-loop-left l = Between (claimed l.of l.self) (length l.self.bits) l.number l.low l.left

abbrev pub decreases-loop-left : goal.decreases-loop-left
decreases-loop-left l = l.left
