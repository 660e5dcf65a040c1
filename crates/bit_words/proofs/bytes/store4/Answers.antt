-- Each byte of the number takes the place of the byte that stood there.
use Rattle.std.proofs.Common.{◌≡◌, ◌+◌, ◌-◌, ◌∙◌, arith}
use Rattle.bit_words.proofs.lemmas.ByteNumberLemmas.{bytes_replaced}
use Rattle.bit_words.proofs.bytes.store4.Goals as goal

pub returns : goal.returns
returns c =
    let len : c.args.at + 4 - c.args.at ≡ 4 = omega arith in
    bytes_replaced c.args.bytes.now _ c.args.at _ 4 c.args.word len (c.copy_from_slice.ensures.after ∙ c.to_le_bytes.ensures) c.requires
