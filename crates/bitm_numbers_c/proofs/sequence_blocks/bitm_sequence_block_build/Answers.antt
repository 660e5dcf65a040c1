-- Where no error is answered, the block can hold the numbers; and where one is, it can not.
use Rattle.std.proofs.Common.{◌≡◌, ◌+◌, ◌≤◌, length, Err, ap, refl, ⊎_elim, arith}
use Rattle.std.proofs.lemmas.Bool.{cases_eq}
use Rattle.bitm_block.specs.Layout.{end_of}
use Rattle.sequence_block.specs.Block.{sections_of}
use Rattle.bitm_numbers_c.proofs.sequence_blocks.bitm_sequence_block_build.Goals as goal

pub returns-in-Ok-clause-ok : goal.returns-in-Ok-clause-ok
returns-in-Ok-clause-ok c =
    let e = c.in-Ok.ensures in
    let sequence = e.block.holds.are.sequence in
    let room : length c.args.block.now ≡ end_of (sections_of c.args.items.now) =
    ⊎_elim (λ same. same) (λ apart. absurd (let wrong = e.wrong_length.1 (sequence.short, apart) in cc))
    (cases_eq (length c.args.block.now) (end_of (sections_of c.args.items.now))) in
    ((λ _. record { short = sequence.short; rising = sequence.rising; room = room }), (λ _. refl))

pub returns-in-Ok-clause-unsorted : goal.returns-in-Ok-clause-unsorted
returns-in-Ok-clause-unsorted c = (
  λ wrong. absurd (omega (arith, wrong)),
  λ fall. absurd (let wrong = c.in-Ok.ensures.not_sorted.1 fall in cc),
)

pub returns-in-Err-NotSorted-clause-ok : goal.returns-in-Err-NotSorted-clause-ok
returns-in-Err-NotSorted-clause-ok c =
    let fall = (c.in-Err-NotSorted.ensures.not_sorted.0 (ap Err c.in-Err-NotSorted.field-0-is)).2 in (
      λ wrong. absurd (omega (arith, wrong)),
      λ can. absurd (
          let next : fall.0 ≤ fall.0 + 1 = omega arith in
          omega (arith, fall.2, can.rising fall.0 (fall.0 + 1) 0 next fall.1)
          ),
    )
