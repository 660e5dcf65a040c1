use Rattle.std.proofs.Common.{◌*◌}
use Rattle.std.specs.List.{SameBelow}
use Rattle.bitm_block.proofs.copying.copy_items.Given as goal

-- the items of the pairs so far
abbrev pub invariant-loop-pair : goal.invariant-loop-pair
invariant-loop-pair g l = SameBelow l.from l.to (2 * l.pair)
