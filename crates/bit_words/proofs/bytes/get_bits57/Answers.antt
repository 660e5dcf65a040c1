-- The word without its lowest digits is the window.
use Rattle.std.proofs.Common.{◌/◌, ◌%◌, ◌^◌, ap, ◌∙◌, arith}
use Rattle.bit_words.proofs.lemmas.ByteNumberLemmas.{length-byte_bits_of}
use Rattle.bit_words.proofs.lemmas.ByteWindowLemmas.{window_read}
use Rattle.bit_words.specs.Bytes.{byte_bits_of}
use Rattle.bit_words.proofs.bytes.get_bits57.Goals as goal

pub returns : goal.returns
returns c =
    let s = c.args.first_bit in
    ap (λ x. x / 2 ^ (s % 8)) c.load8.ensures
    ∙ window_read (byte_bits_of c.args.bytes.now) s 8 (omega arith) (omega (arith, length-byte_bits_of c.args.bytes.now))
