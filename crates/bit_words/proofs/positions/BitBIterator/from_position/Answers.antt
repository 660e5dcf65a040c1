-- The word that has the position, without the digits before it, and the words after it.
use Rattle.std.proofs.Common.{◌-◌, ◌*◌, ◌/◌, ◌+◌, ◌^◌, ◌<◌, drop, length, get_or, bit_and, refl, ap, ap₂, ◌∙◌, arith, rules, take_all, length-drop, w64}
use Rattle.std.proofs.lemmas.List.{drop_all}
use Rattle.std.specs.Int.{bit_not}
use Rattle.bit_lists.specs.Coming.{coming}
use Rattle.bit_lists.proofs.lemmas.PositionFromLemmas.{coming_from, coming_past}
use Rattle.bit_words.proofs.positions.BitBIterator.from_position.Goals as goal

pub returns-then-index-words : goal.returns-then-index-words
returns-then-index-words g c =
    let words = c.args.words.now in
    let n = length words in
    ap (coming g.row.BIT 0 0) (take_all (n - n) (drop n words) (omega (arith, length-drop n words)) ∙ drop_all n words (omega arith))
    ∙ coming_past g.row.BIT 0 words c.args.start (omega arith)

pub returns : goal.returns
returns g c =
    let BIT = g.row.BIT in
    let words = c.args.words.now in
    let q = c.args.start / 64 in
    let rest = drop (q + 1) words in
    let w = get_or words q 0 in
    let fits : w < 2 ^ 64 = search rules in
    ap₂ (coming BIT (q * 64))
    (ap (λ x. bit_and x (bit_not w64 c.n_lowest_bits.result)) c.word_of.ensures)
    (take_all (length words - (q + 1)) rest (omega (arith, length-drop (q + 1) words)))
    ∙ coming_from BIT words c.args.start w c.n_lowest_bits.result (omega arith) refl fits c.n_lowest_bits.ensures
