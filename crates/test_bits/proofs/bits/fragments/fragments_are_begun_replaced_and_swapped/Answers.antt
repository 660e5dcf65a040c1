-- The array's bits are zeros, and after the first write only bits 3 to 5 are not: the numbers that stand there compute.
use Rattle.std.proofs.Common.{inl, ap, ◌∙◌}
use Rattle.bitm_bits.specs.Bits.{bits_of, low_digits}
use Rattle.bitm_bits.specs.Number.{number_of_bits, number_at, with_number}
use Rattle.test_bits.proofs.bits.fragments.fragments_are_begun_replaced_and_swapped.Goals as goal

pub init_fragment-requires-clause-clear : goal.init_fragment-requires-clause-clear
unfolding number_at number_of_bits bits_of
init_fragment-requires-clause-clear g c = inl (ap (λ w. number_at (bits_of w) 3 3) c.as_mut_slice-content.ensures.value)

pub init_fragment-requires-2-clause-clear : goal.init_fragment-requires-2-clause-clear
unfolding number_at number_of_bits bits_of with_number low_digits
init_fragment-requires-2-clause-clear g c =
    inl
    (ap (λ b. number_at b 60 30) c.init_fragment.ensures.after
    ∙ ap (λ w. number_at (with_number (bits_of w) 3 3 5) 60 30) c.as_mut_slice-content.ensures.value)
