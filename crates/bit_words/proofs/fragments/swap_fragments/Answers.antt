-- Fragments that change places with themselves leave the bits, and words are the same where their bits are.
use Rattle.std.proofs.Common.{◌*◌, ap, ap₂, ◌∙◌, sym, arith, rules}
use Rattle.bit_lists.proofs.lemmas.BitsLemmas.{length-bits_of, bits_of-injective}
use Rattle.bit_lists.proofs.lemmas.SwapLemmas.{with_swapped-itself}
use Rattle.bit_words.proofs.fragments.swap_fragments.Goals as goal
use Rattle.bit_lists.specs.Bits.{bits_of}
use Rattle.bit_lists.specs.Number.{with_number, with_swapped}

pub returns-clause-kept : goal.returns-clause-kept
returns-clause-kept c same =
    let words = c.args.words.now in
    let b = bits_of words in
    let i = c.args.i in
    let j = c.args.j in
    let s = c.args.s in
    bits_of-injective c.set_fragment-2.new.words words (λ k. search rules) (λ k. search rules)
    (c.set_fragment-2.ensures
    ∙ ap (λ a. with_number a (j * s) s c.get_fragment-first.result) c.set_fragment.ensures
    ∙ ap₂ (λ x y. with_number (with_number b (i * s) s y) (j * s) s x) c.get_fragment-first.ensures.value c.get_fragment-second.ensures.value
    ∙ ap (λ k. with_swapped b i k s) (sym same)
    ∙ with_swapped-itself b i s (omega (arith, length-bits_of words, c.requires.first.1.1)))
