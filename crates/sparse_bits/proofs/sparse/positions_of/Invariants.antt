use Rattle.std.proofs.Common.{◌≡◌}
use Rattle.sparse_bits.proofs.sparse.positions_of.Given as goal

abbrev pub invariant-loop-position : goal.invariant-loop-position
invariant-loop-position l = record { pushed : l.positions.items ≡ l.yielded }
