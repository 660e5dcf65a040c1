-- A bit is 1 exactly where its position is held.
use Rattle.std.proofs.Common.{◌<◌, arith}
use Rattle.sparse_bits.proofs.lemmas.PositionLemmas.{bit_held, bits_count}
use Rattle.sparse_bits.proofs.counted.Ones.bit_in.Goals as goal

pub returns-then-position-len-clause-bit : goal.returns-then-position-len-clause-bit
returns-then-position-len-clause-bit g c = λ xs h. omega (arith, bits_count c.args.self.now.len xs h.positions, c.len.ensures, c.if-position-len.true)

pub returns-in-Some-clause-bit : goal.returns-in-Some-clause-bit
returns-in-Some-clause-bit g c = λ xs h.
    let n = c.args.self.now.len in
    let inside : c.args.position < n = omega (arith, c.len.ensures, c.if-position-len.false) in (
      omega (arith, bits_count n xs h.positions, inside),
      bit_held n xs h.positions c.args.position c.in-Some.bit inside (c.in-Some.ensures.answer xs h.holds),
    )
