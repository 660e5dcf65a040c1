-- What is counted on the way to the position is at most all ones, which fit.
use Rattle.std.proofs.Common.{arith, rules}
use Rattle.bitm.proofs.lemmas.SimpleLemmas.{counts_through}
use Rattle.bitm.proofs.simple.rank_from.Goals as goal

pub overflow_cast-whole : goal.overflow_cast-whole
overflow_cast-whole c =
    let h = counts_through c.args.words.now c.args.last _ c.requires.inside (λ j. search rules) c.ones_of_words-whole.ensures in
    omega (arith, h.word, h.position, h.most, c.requires.few)

pub overflow_add-result : goal.overflow_add-result
overflow_add-result c =
    let h = counts_through c.args.words.now c.args.last _ c.requires.inside (λ j. search rules) c.ones_of_words-whole.ensures in
    omega (arith, h.word, h.position, h.most, c.requires.few, c.requires.before)

pub returns : goal.returns
returns c =
    let h = counts_through c.args.words.now c.args.last _ c.requires.inside (λ j. search rules) c.ones_of_words-whole.ensures in
    omega (arith, h.position, c.ones_through.ensures, c.requires.before)

pub overflow_add-result-2 : goal.overflow_add-result-2
overflow_add-result-2 c =
    let h = counts_through c.args.words.now c.args.last _ c.requires.inside (λ j. search rules) c.ones_of_words-whole.ensures in
    omega (arith, returns c, h.most, c.requires.few)
