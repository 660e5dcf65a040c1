use Rattle.std.proofs.Common.{ℕ, ◌^◌, ◌<◌, List, get_or, sym, ap, subst, ◌∙◌, rules}
use Rattle.std.proofs.lemmas.List.{nil_from_length}
use Rattle.bit_lists.specs.Bits.{bits_of}
use Rattle.bit_lists.specs.Coming.{coming}
use Rattle.bit_lists.specs.Count.{bit_positions, as_bit}
use Rattle.bit_lists.proofs.lemmas.PositionLemmas.{positions-cons, positions_nil, coming_end}
use Rattle.bit_words.proofs.positions.BitBIterator.new.Goals as goal

pub returns-in-Some : goal.returns-in-Some
returns-in-Some g c =
    let BIT = g.row.BIT in
    let w = c.in-Some.word.now in
    let rest = c.in-Some.rest.now in
    let cut = c.in-Some.ensures.cases.0 in
    let P : List ℕ → Type 0 = λ words. get_or words 0 0 < 2 ^ 64 in
    let first : get_or c.args.words.now 0 0 < 2 ^ 64 = search rules in
    ap (λ x. coming BIT 0 x rest) c.word_of.ensures
    ∙ sym (ap (λ words. bit_positions (as_bit BIT) 0 (bits_of words)) cut ∙ positions-cons BIT 0 w rest (subst P cut first))

pub returns-in-None : goal.returns-in-None
returns-in-None g c =
    let BIT = g.row.BIT in
    let none = nil_from_length c.args.words.now c.in-None.ensures.cases in
    ap (λ words. coming BIT 0 0 words) none ∙ coming_end BIT 0 ∙ sym (ap (λ words. bit_positions (as_bit BIT) 0 (bits_of words)) none ∙ positions_nil BIT 0)
