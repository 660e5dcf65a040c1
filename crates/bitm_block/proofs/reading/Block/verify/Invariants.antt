use Rattle.std.proofs.Common.{ℕ, ◌<◌}
use Rattle.bitm_block.specs.Header.{IsKept}
use Rattle.bitm_block.proofs.reading.Block.verify.Given as goal

-- the sections so far are as they were written
abbrev pub invariant-loop-i : goal.invariant-loop-i
invariant-loop-i l = (k : ℕ) → k < l.i → IsKept l.self k
