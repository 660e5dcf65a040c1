use Rattle.std.proofs.Common.{◌≡◌, ◌+◌}
use Rattle.bitm.specs.Bits.{bits_of}
use Rattle.bitm.specs.Coming.{bits_left}
use Rattle.bitm.specs.Count.{ones_of}
use Rattle.example_callers.proofs.iterating.ones_by_their_bits.Given as goal

-- the ones counted and the ones among the bits to come are all ones
abbrev pub invariant-loop-bit : goal.invariant-loop-bit
invariant-loop-bit l =
    (goal.iterator-loop-bit).can_next l.bit-iterator
    × (goal.iterator-loop-bit).is_finite l.bit-iterator
    × (l.count + ones_of (bits_left l.bit-iterator) ≡ ones_of (bits_of l.words))
