use Rattle.std.proofs.Common.{◌-◌, length}
use Rattle.example_callers.specs.Inverted.{AreCommonTo}
use Rattle.example_callers.proofs.inverted.common.Given as goal

abbrev pub invariant-loop-at : goal.invariant-loop-at
invariant-loop-at l = AreCommonTo l.one.items l.other.items l.at l.found.items

abbrev pub decreases-loop-at : goal.decreases-loop-at
decreases-loop-at l = length l.one.items - l.at
