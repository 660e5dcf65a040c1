-- The ones before the bit are those to it, less the bit.
use Rattle.std.proofs.Common.{◌≡◌, ℕ, ◌+◌, ◌-◌, ◌*◌, ◌/◌, ◌%◌, ◌^◌, ◌<◌, Bool, true, false, not, nat_eq, List, length, slice_index, ap, ◌∙◌, arith}
use Rattle.bit_lists.proofs.lemmas.WordLemmas.{truth}
use Rattle.bit_lists.specs.Bits.{bits_of, item}
use Rattle.bit_lists.specs.Count.{ones_before}
use Rattle.bit_lists.proofs.lemmas.BitsLemmas.{length-bits_of}
use Rattle.bit_lists.proofs.lemmas.CountLemmas.{ones_before_more}
use Rattle.bitm_tables.proofs.lemmas.RankLemmas.{item_shifted}
use Rattle.bitm_tables.proofs.lemmas.StretchLemmas.{ones_before-self}
use Rattle.bitm_tables.proofs.ranking.bit_and_ones_before.Goals as goal
use mir.Val.{bool_byte}

less_bit : (v : Bool) (x y : ℕ) → x ≡ y + truth v → y < 2 ^ 64 → (x + (2 ^ 64 - bool_byte v)) % 2 ^ 64 ≡ y
less_bit true x y h fits = omega (arith, h, fits)
less_bit false x y h fits = omega (arith, h, fits)

-- the bit of a word, as the code tests it
tested : (words : List ℕ) (word p : ℕ) → p < 64 * length words → word ≡ slice_index words (p / 64)
    → not (nat_eq (word * 2 ^ (63 - p % 64) % 2 ^ 64 / 2 ^ 63) 0) ≡ item (bits_of words) p
tested words word p inside word_is =
    ap (λ (w : ℕ). not (nat_eq (w * 2 ^ (63 - p % 64) % 2 ^ 64 / 2 ^ 63) 0)) word_is ∙ item_shifted words p inside

pub returns-clause-bit : goal.returns-clause-bit
returns-clause-bit c = λ words inside word_is. tested words c.args.word c.args.position inside word_is

pub returns-clause-ones : goal.returns-clause-ones
returns-clause-ones c = λ words short inside word_is ones_are.
    let b = bits_of words in
    let p = c.args.position in
    let here : p < length b = omega (arith, inside, length-bits_of words) in
    let few : ones_before b p < 2 ^ 64 = omega (arith, ones_before-self b p, here, length-bits_of words, short) in
    let sum = ones_are ∙ ones_before_more b p here in
    ap (λ (v : Bool). (c.args.ones + (2 ^ 64 - bool_byte v)) % 2 ^ 64) (tested words c.args.word p inside word_is)
    ∙ less_bit (item b p) c.args.ones (ones_before b p) sum few
