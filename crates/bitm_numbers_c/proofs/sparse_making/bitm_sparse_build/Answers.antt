-- Where no error is answered, the block can hold the bits; and where one is, it can not.
use Rattle.std.proofs.Common.{ℕ, Err, ap, arith, refl, subst}
use Rattle.sparse_bits.specs.Positions.{AreBitPositions}
use Rattle.bitm_numbers_c.proofs.SparseLemmas.{can_hold}
use Rattle.bitm_numbers_c.proofs.sparse_making.bitm_sparse_build.Goals as goal

pub returns-in-Ok-clause-ok : goal.returns-in-Ok-clause-ok
returns-in-Ok-clause-ok c =
    let e = c.in-Ok.ensures in
    let xs = c.args.positions.now in
    let positions = subst (λ (n : ℕ). AreBitPositions n 0 xs) e.block.len e.block.ones.positions in
    ((λ _. can_hold _ xs c.args.bits_len c.args.block.now e.too_long.1 e.wrong_length.1 positions), (λ _. refl))

pub returns-in-Err-PastEnd-clause-wrong : goal.returns-in-Err-PastEnd-clause-wrong
returns-in-Err-PastEnd-clause-wrong c = ((λ _. c.in-Err-PastEnd.ensures.past_end.0 (ap Err c.in-Err-PastEnd.field-0-is)), (λ _. refl))

pub returns-in-Ok-clause-unsorted : goal.returns-in-Ok-clause-unsorted
returns-in-Ok-clause-unsorted c = (
  λ wrong. absurd (omega (arith, wrong)),
  λ no_rise. absurd (let wrong = c.in-Ok.ensures.not_rising.1 no_rise in cc),
)

pub returns-in-Ok-clause-wrong : goal.returns-in-Ok-clause-wrong
returns-in-Ok-clause-wrong c = (
  λ wrong. absurd (omega (arith, wrong)),
  λ past. absurd (let wrong = c.in-Ok.ensures.past_end.1 past in cc),
)

pub returns-in-Err-NotRising-clause-unsorted : goal.returns-in-Err-NotRising-clause-unsorted
returns-in-Err-NotRising-clause-unsorted c =
    ((λ _. c.in-Err-NotRising.ensures.not_rising.0 (ap Err c.in-Err-NotRising.field-0-is)), (λ _. refl))
