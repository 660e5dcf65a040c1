-- The array's bits are zeros: the bit that stands there computes.
use Rattle.std.proofs.Common.{inl, ap}
use Rattle.bitm_bits.specs.Bits.{bits_of, item}
use Rattle.test_bits.proofs.bits.successive.a_bit_is_begun_and_the_next_position_is_left.Goals as goal

pub init_successive_bit-requires-clause-clear : goal.init_successive_bit-requires-clause-clear
unfolding bits_of
init_successive_bit-requires-clause-clear g c = inl (ap (λ w. item (bits_of w) 63) c.as_mut_slice-content.ensures.value)
