-- The word that is written is the window after the change.
use Rattle.std.proofs.Common.{w32, refl, ◌∙◌, arith}
use Rattle.bit_words.proofs.lemmas.ByteNumberLemmas.{length-byte_bits_of}
use Rattle.bit_words.proofs.lemmas.ByteWindowLemmas.{window_set}
use Rattle.bit_words.specs.Bytes.{byte_bits_of}
use Rattle.bit_words.proofs.bytes.set_bits25.Goals as goal

pub returns : goal.returns
returns c =
    c.store4.ensures
    ∙ window_set w32 (byte_bits_of c.args.bytes.now) c.args.first_bit 4 c.load4.result refl (omega arith)
    (omega (arith, length-byte_bits_of c.args.bytes.now)) c.load4.ensures c.args.value c.args.len_mask
