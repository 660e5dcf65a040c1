-- No one stands before the first bit.
use Rattle.std.proofs.Common.{true}
use Rattle.bit_lists.proofs.BitLaws.{none_before_the_first}
use Rattle.bit_lists.specs.Bits.{bits_of}
use Rattle.elias_fano.proofs.sequence.Sequence.iter.Goals as goal

pub numbers-requires-clause-first : goal.numbers-requires-clause-first
numbers-requires-clause-first g c = λ upper is. none_before_the_first (bits_of upper) true
