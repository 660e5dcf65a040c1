use Rattle.std.proofs.Common.{ℕ, ◌<◌}
use Rattle.elias_fano_view.specs.Order.{IsFallAt}
use Rattle.elias_fano_view.proofs.order.first_fall.Given as goal

-- it is no index so far
abbrev pub invariant-loop-i : goal.invariant-loop-i
invariant-loop-i l = (k : ℕ) → k < l.i → ¬ (IsFallAt l.numbers l.strictly k)
