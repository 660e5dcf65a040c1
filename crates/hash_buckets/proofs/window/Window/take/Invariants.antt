use Rattle.std.proofs.Common.{◌<◌}
use Rattle.hash_buckets.proofs.window.Window.take.Given as goal

-- the best so far is one that waits
abbrev pub invariant-loop-i : goal.invariant-loop-i
invariant-loop-i l = l.best < l.self.count
