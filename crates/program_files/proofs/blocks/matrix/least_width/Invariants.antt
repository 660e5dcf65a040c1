use Rattle.std.proofs.Common.{ℕ, ◌<◌, ◌≤◌, ◌^◌, ◌-◌, All}
use Rattle.program_files.proofs.blocks.matrix.least_width.Given as goal

abbrev pub invariant-loop-width : goal.invariant-loop-width
invariant-loop-width l = (1 ≤ l.width) × (l.width ≤ 64) × ((v : ℕ) → 1 ≤ v → All (λ x. x < 2 ^ v) l.numbers → l.width ≤ v)

abbrev pub decreases-loop-width : goal.decreases-loop-width
decreases-loop-width l = 64 - l.width
