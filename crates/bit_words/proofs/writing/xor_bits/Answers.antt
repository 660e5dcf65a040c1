-- Each of one or two words is negated by its part of v.
use Rattle.std.proofs.Common.{◌/◌, ◌*◌, ◌%◌, ◌^◌, ◌<◌, get_or, set, bit_xor, ap, ◌∙◌, arith}
use Rattle.bit_lists.specs.Bits.{bits_of}
use Rattle.bit_lists.proofs.lemmas.FlipLemmas.{xor_bits_within, xor_bits_across}
use Rattle.bit_words.proofs.writing.xor_bits.Goals as goal
use Rattle.bit_words.proofs.writing.xor_bits.Goals.{then-offset-len-gt64, else-offset-len-gt64}

pub returns : goal.returns
returns c =
    let words = c.args.words.now in
    let s = c.args.begin in
    let n = c.args.len in
    let v = c.args.v in
    elim c.if-offset-len-gt64.branch [
      | then-offset-len-gt64 w ↦
          let fits : v < 2 ^ 64 = omega arith in
          xor_bits_across words _ s n v c.requires.in_range (omega arith) c.requires.width fits w.words-is
      | else-offset-len-gt64 w ↦
          ap (λ b. bits_of (set b (s / 64) (bit_xor (get_or b (s / 64) 0) (v * 2 ^ (s % 64) % 2 ^ 64)))) w.words-is
          ∙ xor_bits_within words s n v c.requires.in_range (omega arith)
    ]
