use Rattle.std.proofs.Common.{◌≡◌, ◌+◌, length}
use Rattle.bitm.specs.Bits.{bits_of}
use Rattle.bitm.specs.Count.{ones_of}
use Rattle.example_callers.proofs.iterating.ones_by_their_positions.Given as goal

-- those counted and those to come are all ones
abbrev pub invariant-loop-position : goal.invariant-loop-position
invariant-loop-position l =
    (goal.iterator-loop-position).can_next l._position-iterator
    × (goal.iterator-loop-position).is_finite l._position-iterator
    × (l.count + length l._position-iterator ≡ ones_of (bits_of l.words))
