-- The bits are zeros or already v: to join v leaves v, in one word or in two.
use Rattle.std.proofs.Common.{◌/◌, ◌*◌, ◌%◌, ◌^◌, get_or, set, bit_or, ap, ◌∙◌, arith}
use Rattle.bit_lists.specs.Bits.{bits_of}
use Rattle.bit_words.proofs.lemmas.InitLemmas.{init_bits_within, init_bits_across}
use Rattle.bit_words.proofs.writing.init_bits.Goals as goal
use Rattle.bit_words.proofs.writing.init_bits.Goals.{then-offset-len-gt64, else-offset-len-gt64}

pub returns : goal.returns
returns c =
    let words = c.args.words.now in
    let s = c.args.begin in
    let n = c.args.len in
    let v = c.args.v in
    elim c.if-offset-len-gt64.branch [
      | then-offset-len-gt64 w ↦
          init_bits_across words _ s n v c.requires.in_range (omega arith) c.requires.width c.requires.fits c.requires.clear w.words-is
      | else-offset-len-gt64 w ↦
          ap (λ b. bits_of (set b (s / 64) (bit_or (get_or b (s / 64) 0) (v * 2 ^ (s % 64) % 2 ^ 64)))) w.words-is
          ∙ init_bits_within words s n v c.requires.in_range (omega arith) c.requires.fits c.requires.clear
    ]
