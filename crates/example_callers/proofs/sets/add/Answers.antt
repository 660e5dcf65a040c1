-- The write leaves each other item as it was.
use Rattle.std.proofs.Common.{◌<◌, length, ap, refl, ◌∙◌, arith}
use Rattle.bitm.proofs.BitLaws.{bits_are_counted, item_after_write}
use Rattle.bitm.specs.Bits.{bits_of, item}
use Rattle.example_callers.proofs.sets.add.Goals as goal

pub returns-clause-others : goal.returns-clause-others
returns-clause-others c = λ q apart.
    let b = bits_of c.args.set.now in
    let inside : c.args.number < length b = omega (arith, c.if-not-try_set_bit.ensures.done.0 refl, bits_are_counted c.args.set.now) in
    ap (λ a. item a q) (c.if-not-try_set_bit.ensures.value refl) ∙ (item_after_write b c.args.number 1 inside).1 q apart
