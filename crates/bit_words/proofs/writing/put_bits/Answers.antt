-- The mask clears the bits that v then fills, in one word or in two.
use Rattle.std.proofs.Common.{◌/◌, set, ap, ◌∙◌, arith}
use Rattle.bit_lists.specs.Bits.{bits_of}
use Rattle.bit_words.proofs.lemmas.WriteLemmas.{set_bits_within, set_bits_across}
use Rattle.bit_words.proofs.writing.put_bits.Goals as goal
use Rattle.bit_words.proofs.writing.put_bits.Goals.{then-offset-len-gt64, else-offset-len-gt64}

pub returns : goal.returns
returns c =
    let words = c.args.words.now in
    let s = c.args.begin in
    let n = c.args.len in
    elim c.if-offset-len-gt64.branch [
      | then-offset-len-gt64 w ↦
          set_bits_across words _ s n c.args.v _ _ _ c.requires.in_range (omega arith) c.requires.width c.requires.fits
          c.requires.mask w.words-is w.set_bits_to-then-offset-len-gt64.ensures c.set_bits_to.ensures
      | else-offset-len-gt64 w ↦
          ap (λ b. bits_of (set b (s / 64) c.set_bits_to.new.word)) w.words-is
          ∙ set_bits_within words s n c.args.v _ _ c.requires.in_range (omega arith) c.requires.fits c.requires.mask
          c.set_bits_to.ensures
    ]
