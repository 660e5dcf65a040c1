-- The array's bits are zeros: the number that stands there computes.
use Rattle.std.proofs.Common.{inl, ap}
use Rattle.bitm_bits.specs.Bits.{bits_of}
use Rattle.bitm_bits.specs.Number.{number_of_bits, number_at}
use Rattle.test_bits.proofs.bits.successive.a_number_is_begun_and_the_next_begin_is_left.Goals as goal

pub init_successive_bits-requires-clause-clear : goal.init_successive_bits-requires-clause-clear
unfolding number_at number_of_bits bits_of
init_successive_bits-requires-clause-clear g c = inl (ap (λ w. number_at (bits_of w) 62 3) c.as_mut_slice-content.ensures.value)
