-- What is no one is a zero.
use Rattle.std.proofs.Common.{length, arith}
use Rattle.bitm.proofs.Callers.{length-bits_of, ones_before-add-zeros_before}
use Rattle.bitm.specs.Bits.{bits_of}
use Rattle.example_callers.proofs.strategies.guarded.GuardedSelect0ForRank101111.new0.Goals as goal

pub overflow_sub-result : goal.overflow_sub-result
overflow_sub-result g c =
    let b = bits_of c.args.content.now in
    omega (arith, c.requires.total, length-bits_of c.args.content.now, ones_before-add-zeros_before b (length b) (omega arith))

pub returns : goal.returns
returns g c =
    let b = bits_of c.args.content.now in (
      c.in_ok-inner.ensures,
      omega (arith, c.requires.total, length-bits_of c.args.content.now, ones_before-add-zeros_before b (length b) (omega arith)),
    )
