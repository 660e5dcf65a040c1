-- The ones of the numbers below i are written, and every later bit is still a zero.
use Rattle.std.proofs.Common.{ℕ, length, arith, ap}
use Rattle.std.proofs.lemmas.List.{length-replicate}
use Rattle.elias_fano.proofs.lemmas.UpperLemmas.{HasOnes-none, HasOnes-more, upper_position-inside}
use Rattle.elias_fano_view.proofs.filling.write_tested.Goals as goal

pub loop-i-init : goal.loop-i-init
loop-i-init c = HasOnes-none _ _ _ _ c.requires.clear

pub loop-i-preserved : goal.loop-i-preserved
loop-i-preserved c =
    HasOnes-more c.args.items.now c.args.width c.loop-i.i c.loop-i.words _ c.requires.rising c.loop-i-test.true
    (omega (arith, upper_position-inside c.args.items.now c.args.width c.loop-i.i c.requires.rising c.loop-i-test.true, ap length c.requires.clear, length-replicate {A = ℕ}))
    c.loop-i.invariant c.set_bit.ensures
