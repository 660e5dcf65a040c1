-- A run is a record of eight words.
use Rattle.std.proofs.Common.{◌≡◌, ◌+◌, ◌*◌, ap, arith}
use Rattle.bit_lists.specs.Bits.{bits_of}
use Rattle.bit_lists.specs.Count.{ones_before}
use Rattle.bitm.proofs.simple.ones_of_run.Goals as goal

pub returns : goal.returns
returns c =
    let b = bits_of c.args.words.now in
    let from : 64 * (c.args.run * 8) ≡ 512 * c.args.run = omega arith in
    let to : 64 * (c.args.run * 8 + 8) ≡ 512 * (c.args.run + 1) = omega arith in
    omega (arith, c.ones_of_record.ensures.ones, ap (ones_before b) from, ap (ones_before b) to)
