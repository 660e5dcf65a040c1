-- The array's bits are zeros: the number that stands there computes.
use Rattle.std.proofs.Common.{inl, ap}
use Rattle.bitm_bits.specs.Bits.{bits_of}
use Rattle.bitm_bits.specs.Number.{number_of_bits, number_at}
use Rattle.test_bits.proofs.bits.fragments.a_whole_word_is_begun_over_a_border.Goals as goal

pub init_bits-requires-clause-clear : goal.init_bits-requires-clause-clear
unfolding number_at number_of_bits bits_of
init_bits-requires-clause-clear g c = inl (ap (λ w. number_at (bits_of w) 32 64) c.as_mut_slice-content.ensures.value)
