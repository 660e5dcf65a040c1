-- Below 64 positions the first mask is partial and the second empty; from there on the first is full.
use Rattle.digits.proofs.lemmas.MaskLemmas.{first_mask, second_mask}
use Rattle.std.proofs.Common.{arith}
use Rattle.digits.proofs.line.masks.Goals as goal

pub returns-clause-first : goal.returns-clause-first
returns-clause-first c = first_mask c.args.x c.wrapping_neg-full.result c.requires (omega (arith, c.wrapping_neg-full.ensures))

pub returns-clause-second : goal.returns-clause-second
returns-clause-second c = second_mask c.args.x c.wrapping_neg-full.result c.requires (omega (arith, c.wrapping_neg-full.ensures))
