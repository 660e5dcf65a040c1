-- Eight bytes as a number are their sum, each times its power of 256.
use Rattle.std.proofs.Common.{◌≡◌, ◌+◌, slice_index, ap, arith}
use Rattle.hash_block.specs.SipHash.{number_from}
use Rattle.hash_block.proofs.strings.numbers.word_from.Goals as goal

pub returns : goal.returns
unfolding number_from
returns c =
    let bytes = c.args.bytes.now in
    let first : slice_index bytes (c.args.begin + (c.args.at + 0)) ≡ slice_index bytes (c.args.begin + c.args.at) =
    ap (λ i. slice_index bytes (c.args.begin + i)) (omega arith) in
    omega (arith, first, c.from_le_bytes.ensures)
