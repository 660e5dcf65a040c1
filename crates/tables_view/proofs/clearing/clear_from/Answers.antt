-- The words behind are zeros, and the bits of the first one from that position on are written as 0.
use Rattle.std.proofs.Common.{IsTrue, Bool, List, ap, ◌∙◌, arith}
use Rattle.std.proofs.lemmas.List.{get_or_past}
use Rattle.bit_lists.proofs.lemmas.BitsLemmas.{length-bits_of}
use Rattle.bit_lists.specs.Bits.{item}
use Rattle.tables_view.proofs.ClearingLemmas.{before, from}
use Rattle.tables_view.proofs.clearing.clear_from.Goals as goal
use Rattle.tables_view.proofs.clearing.clear_from.Goals.{After-try_set_bits_0_64}

done : (c : After-try_set_bits_0_64) → IsTrue c.try_set_bits_0_64.result
done c =
    c.try_set_bits_0_64.ensures.done.1
    (omega arith, (omega (arith, c.if-at-words.false, c.clear_words.ensures.len), omega (arith, c.if-at-words.false, c.clear_words.ensures.len)))

pub returns-then-at-words-clause-from : goal.returns-then-at-words-clause-from
returns-then-at-words-clause-from c i past = get_or_past _ i _ (omega (arith, past, c.if-at-words.true, length-bits_of c.args.words.now))

pub returns-clause-before : goal.returns-clause-before
returns-clause-before c i less =
    ap (λ (b : List Bool). item b i) (c.try_set_bits_0_64.ensures.value (done (goal.at.returns-clause-before c).After-try_set_bits_0_64))
    ∙ before c.args.words.now c.clear_words.new.words c.args.bit c.clear_words.ensures.len c.if-at-words.false c.clear_words.ensures.below i less

pub returns-clause-from : goal.returns-clause-from
returns-clause-from c i past =
    ap (λ (b : List Bool). item b i) (c.try_set_bits_0_64.ensures.value (done (goal.at.returns-clause-from c).After-try_set_bits_0_64))
    ∙ from c.args.words.now c.clear_words.new.words c.args.bit c.clear_words.ensures.len c.if-at-words.false c.clear_words.ensures.zeros i past
