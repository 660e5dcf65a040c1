-- An unmasked read has the bits lowest.
use Rattle.std.proofs.Common.{◌-◌, ◌^◌, ap, ◌∙◌, bit_and}
use Rattle.bit_lists.specs.Window.{reach_of}
use Rattle.bit_lists.proofs.lemmas.ReadLemmas.{number_at_masked, reach_of_room}
use Rattle.bit_words.proofs.reading.wide_bits.Goals as goal

pub returns-then-words-gt-WORDS_READ_IN_PAIRS : goal.returns-then-words-gt-WORDS_READ_IN_PAIRS
returns-then-words-gt-WORDS_READ_IN_PAIRS c =
    let words = c.args.words.now in
    let s = c.args.begin in
    let n = c.args.len in
    let room = reach_of_room words s n c.requires.in_range c.requires.width in
    ap (λ x. bit_and x (2 ^ n - 1)) c.get_bits_unmasked.ensures ∙ number_at_masked words s (reach_of s n) n room.0 c.requires.in_range.1
