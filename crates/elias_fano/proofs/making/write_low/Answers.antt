-- The fragments below i are written and the bits after them are still zeros.
use Rattle.std.proofs.Common.{◌*◌, ap, inl, ◌∙◌, bit_and, get_or, length, ℕ}
use Rattle.std.proofs.lemmas.List.{length-replicate}
use Rattle.std.proofs.lemmas.Nat.{and_mask}
use Rattle.bit_lists.proofs.BitLaws.{zeros_are_zero}
use Rattle.bit_lists.specs.Bits.{bits_of}
use Rattle.bit_lists.specs.Number.{with_number}
use Rattle.elias_fano.proofs.lemmas.LowLemmas.{HasFragments-none, HasFragments-more, IsLow-empty, fragment-inside}
use Rattle.elias_fano.proofs.making.write_low.Goals as goal

pub returns-then-width-eq0 : goal.returns-then-width-eq0
returns-then-width-eq0 c = IsLow-empty c.args.items.now c.args.width c.args.low.now c.if-width-eq0.true c.requires.clear

pub loop-i-init : goal.loop-i-init
loop-i-init c = HasFragments-none _ _ _ _ c.requires.clear

pub init_fragment-requires-clause-clear : goal.init_fragment-requires-clause-clear
init_fragment-requires-clause-clear c = inl (zeros_are_zero (bits_of c.loop-i.low) _ c.args.width (λ p from _. c.loop-i.invariant.zeros p from))

pub loop-i-preserved : goal.loop-i-preserved
loop-i-preserved c =
    let x = get_or c.args.items.now c.loop-i.i 0 in
    let low_digits = ap (bit_and x) c.n_lowest_bits-mask.ensures ∙ and_mask x c.args.width in
    HasFragments-more c.args.items.now c.args.width c.loop-i.i c.loop-i.low _ c.loop-i.invariant
    (fragment-inside c.args.items.now c.args.width c.loop-i.i c.loop-i.low c.loop-i-test.true
    (c.loop-i.auto.low ∙ ap length c.requires.clear ∙ length-replicate {A = ℕ} _ 0))
    (c.init_fragment.ensures ∙ ap (λ v. with_number (bits_of c.loop-i.low) (c.loop-i.i * c.args.width) c.args.width v) low_digits)
