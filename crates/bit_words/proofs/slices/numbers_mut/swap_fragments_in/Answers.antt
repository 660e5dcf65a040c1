-- Both numbers were read before one is written, and have no more bits than that.
use Rattle.std.proofs.Common.{◌*◌, ◌%◌, ◌^◌, ◌≡◌, ◌≤◌, length, ap, ap₂, ◌∙◌, arith, mod-eq_of_lt}
use Rattle.bit_lists.proofs.lemmas.BitsLemmas.{length-bits_of}
use Rattle.bit_lists.proofs.lemmas.NumberLemmas.{number_at-lt}
use Rattle.bit_lists.specs.Bits.{bits_of}
use Rattle.bit_lists.specs.Number.{number_at, with_number}
use Rattle.bit_words.proofs.lemmas.FirstLemmas.{number_first}
use Rattle.bit_words.proofs.slices.numbers_mut.swap_fragments_in.Goals as goal

pub returns-then-set_fragment_in-clause-value : goal.returns-then-set_fragment_in-clause-value
returns-then-set_fragment_in-clause-value c = λ done.
    let words = c.args.words.now in
    let b = bits_of words in
    let w = c.args.width in
    let i = c.args.first * w in
    let j = c.args.second * w in
    let within : c.args.len ≤ length b = omega (arith, c.requires, length-bits_of words) in
    let in_i = c.in-Some.ensures.0.1 in
    let in_j = c.in-Some-fragment_in.ensures.0.1 in
    let first : c.in-Some.before % 2 ^ w ≡ number_at b i w =
    ap (λ n. n % 2 ^ w) (c.in-Some.ensures.1 ∙ number_first b c.args.len i w in_i within) ∙ mod-eq_of_lt (number_at-lt b i w (omega (arith, in_i, within))) in
    let second : c.in-Some-fragment_in.after % 2 ^ w ≡ number_at b j w =
    ap (λ n. n % 2 ^ w) (c.in-Some-fragment_in.ensures.1 ∙ number_first b c.args.len j w in_j within) ∙ mod-eq_of_lt (number_at-lt b j w (omega (arith, in_j, within))) in
    c.set_fragment_in-then-set_fragment_in.ensures.value done
    ∙ ap (λ a. with_number a j w (c.in-Some.before % 2 ^ w)) (c.set_fragment_in.ensures.value c.if-set_fragment_in.true)
    ∙ ap₂ (λ x y. with_number (with_number b i w y) j w x) first second
