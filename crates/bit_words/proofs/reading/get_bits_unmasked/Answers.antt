-- The word at the begin has the range, or that word and the next have it.
use Rattle.std.proofs.Common.{◌/◌, ◌<◌, ◌^◌, get_or, arith, rules}
use Rattle.bit_lists.proofs.lemmas.ReadLemmas.{number_at_across, number_at_within}
use Rattle.bit_words.proofs.reading.get_bits_unmasked.Goals as goal

pub returns-then-offset-len-gt64 : goal.returns-then-offset-len-gt64
returns-then-offset-len-gt64 c =
    let words = c.args.words.now in
    let fits : get_or words (c.args.begin / 64) 0 < 2 ^ 64 = search rules in
    number_at_across words c.args.begin c.args.len c.requires.in_range (omega arith) c.requires.width fits

pub returns-else-offset-len-gt64 : goal.returns-else-offset-len-gt64
returns-else-offset-len-gt64 c =
    let words = c.args.words.now in
    let fits : get_or words (c.args.begin / 64) 0 < 2 ^ 64 = search rules in
    number_at_within words c.args.begin c.args.len c.requires.in_range (omega arith) fits
