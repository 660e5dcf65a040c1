-- The word at the begin has the range, or that word and the next have it.
use Rattle.std.proofs.Common.{◌/◌, ◌<◌, ◌^◌, get_or, arith, rules}
use Rattle.bit_lists.specs.Number.{IsInRange}
use Rattle.bit_lists.proofs.lemmas.ReadLemmas.{number_at_across, number_at_within}
use Rattle.bit_words.proofs.reading.try_get_bits_unmasked.Goals as goal

pub returns-then-offset-len-le64 : goal.returns-then-offset-len-le64
returns-then-offset-len-le64 c =
    let words = c.args.words.now in
    let fits : get_or words (c.args.begin / 64) 0 < 2 ^ 64 = search rules in
    let range : IsInRange words c.args.begin c.args.len = (omega arith, omega arith) in
    (range, number_at_within words c.args.begin c.args.len range (omega arith) fits)

pub returns-then-segment-words-2 : goal.returns-then-segment-words-2
returns-then-segment-words-2 c =
    let words = c.args.words.now in
    let fits : get_or words (c.args.begin / 64) 0 < 2 ^ 64 = search rules in
    let range : IsInRange words c.args.begin c.args.len = (omega arith, omega arith) in
    (range, number_at_across words c.args.begin c.args.len range (omega arith) c.requires fits)
