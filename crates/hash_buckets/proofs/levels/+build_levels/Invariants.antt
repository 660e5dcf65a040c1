use Rattle.std.proofs.Common.{length}
use Rattle.hash_buckets.proofs.levels.+build_levels.Given as goal

-- each level takes the room of one
abbrev pub decreases-build_levels : goal.decreases-build_levels
decreases-build_levels l = length l.levels.now
