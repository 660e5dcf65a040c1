-- Each byte of the number takes the place of the byte that stood there.
use Rattle.std.proofs.Common.{◌≡◌, ◌+◌, ◌-◌, ◌∙◌, arith}
use Rattle.bit_words.proofs.lemmas.ByteNumberLemmas.{bytes_replaced}
use Rattle.bit_words.proofs.bytes.store8.Goals as goal

pub returns : goal.returns
returns c =
    let len : c.args.at + 8 - c.args.at ≡ 8 = omega arith in
    bytes_replaced c.args.bytes.now _ c.args.at _ 8 c.args.word len (c.copy_from_slice.ensures.after ∙ c.to_le_bytes.ensures) c.requires
