-- A word is the number of its bits; an unmasked read of 64 bits has these alone.
use Rattle.std.proofs.Common.{rules, ◌≡◌, ◌*◌, ◌/◌, ◌^◌, ◌<◌, get_or, ap, sym, ◌∙◌, arith}
use Rattle.bit_lists.proofs.lemmas.BesideLemmas.{number_at-word}
use Rattle.bit_lists.specs.Bits.{bits_of}
use Rattle.bit_lists.specs.Number.{number_at, with_number}
use Rattle.bit_words.proofs.lemmas.CopyLemmas.{word_written}
use Rattle.bit_words.proofs.lemmas.FirstLemmas.{reach_of_word}
use Rattle.bit_words.proofs.slices.copying.copy_word.Goals as goal

pub returns-then-this-eq0 : goal.returns-then-this-eq0
returns-then-this-eq0 g c =
    let to = c.args.to.now in
    let from = c.args.from.now in
    let k = c.args.from_begin / 64 in
    let fits : get_or from k 0 < 2 ^ 64 = search rules in
    let begins : 64 * k ≡ c.args.from_begin = omega (arith, c.requires.whole c.if-this-eq0.true) in
    word_written to c.args.at _ c.requires.to_inside
    ∙ ap (with_number (bits_of to) (64 * c.args.at) 64)
    (sym (number_at-word from k (omega (arith, c.requires.from_inside)) fits) ∙ ap (λ s. number_at (bits_of from) s 64) begins)

pub returns : goal.returns
returns g c =
    let to = c.args.to.now in
    word_written to c.args.at c.get_bits_unmasked.result c.requires.to_inside
    ∙ ap (with_number (bits_of to) (64 * c.args.at) 64)
    (c.get_bits_unmasked.ensures ∙ ap (number_at (bits_of c.args.from.now) c.args.from_begin) (reach_of_word c.args.from_begin))
