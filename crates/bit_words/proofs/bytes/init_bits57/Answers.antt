-- The word that is written is the window after the change.
use Rattle.std.proofs.Common.{w64, refl, ◌∙◌, arith}
use Rattle.bit_words.proofs.lemmas.ByteNumberLemmas.{length-byte_bits_of}
use Rattle.bit_words.proofs.lemmas.ByteWindowLemmas.{window_init}
use Rattle.bit_words.specs.Bytes.{byte_bits_of}
use Rattle.bit_words.proofs.bytes.init_bits57.Goals as goal

pub returns : goal.returns
returns c =
    c.store8.ensures
    ∙ window_init w64 (byte_bits_of c.args.bytes.now) c.args.first_bit 8 c.load8.result refl (omega arith)
    (omega (arith, length-byte_bits_of c.args.bytes.now)) c.load8.ensures c.args.value
