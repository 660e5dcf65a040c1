-- A mask of the lowest bits leaves the remainder; the mask turned over leaves the others.
use Rattle.std.proofs.Common.{arith, bit_and, bit_xor}
use Rattle.std.proofs.lemmas.Nat.{and_le_l, ones-le}
use Rattle.digits.proofs.lemmas.MaskLemmas.{ones_below_mask, ones_above_mask}
use Rattle.digits.proofs.line.ones_under.Goals as goal

pub returns-clause-few : goal.returns-clause-few
returns-clause-few c =
    let m = bit_xor c.args.mask c.args.turned in
    ones-le 64 (bit_and c.args.word m) (omega (arith, and_le_l c.args.word m, c.ranges.word.fits))

pub returns-clause-below : goal.returns-clause-below
returns-clause-below c = λ y few mask turned. ones_below_mask c.args.word y c.args.mask c.args.turned mask turned

pub returns-clause-above : goal.returns-clause-above
returns-clause-above c = λ y few mask turned. ones_above_mask c.args.word y c.args.mask c.args.turned c.ranges.word.fits few mask turned
