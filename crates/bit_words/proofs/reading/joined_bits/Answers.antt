-- Two words side by side begin with the bits.
use Rattle.std.proofs.Common.{◌/◌, ◌<◌, ◌^◌, get_or, rules}
use Rattle.bit_words.proofs.lemmas.JoinLemmas.{number_at_joined}
use Rattle.bit_words.proofs.reading.joined_bits.Goals as goal

pub returns : goal.returns
returns c = λ n small range across.
    let words = c.args.words.now in
    let fits : get_or words (c.args.begin / 64) 0 < 2 ^ 64 = search rules in
    number_at_joined words c.args.begin n c.args.last range small across fits
