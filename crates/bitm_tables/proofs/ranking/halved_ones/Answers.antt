-- Four words, two and one are counted, each where so many are among those that count.
use Rattle.std.proofs.Common.{◌≡◌, ℕ, ◌+◌, ◌*◌, ◌/◌, subst, ◌∙◌, arith}
use Rattle.bit_lists.specs.Bits.{bits_of}
use Rattle.bit_lists.specs.Count.{ones_before}
use Rattle.bitm_tables.specs.Tables.{Lists}
use Rattle.bitm_tables.proofs.lemmas.StretchLemmas.{word_more}
use Rattle.bitm_tables.proofs.lemmas.HalvesLemmas.{by_halves}
use Rattle.bitm_tables.proofs.ranking.halved_ones.Goals as goal

pub returns-clause-ones : goal.returns-clause-ones
returns-clause-ones g c =
    let lists = g.T.TableSource.lists c.args.source.now in
    let first = c.args.first in
    let half = first + c.args.len / 4 * 4 in
    let pair = first + c.args.len / 2 * 2 in
    let after_1 = c.ones_of_word.ensures.same in
    let after_2 = c.ones_of_word-2.ensures.same ∙ after_1 in
    let after_3 = c.ones_of_word-3.ensures.same ∙ after_2 in
    let after_p = c.ones_of_word-4.ensures.same ∙ after_3 in
    let after_q = c.ones_of_word-5.ensures.same ∙ after_p in
    let counts : ℕ → ℕ → Lists → Type 0 = λ k n l. ones_before (bits_of l.words) (64 * k) + n ≡ ones_before (bits_of l.words) (64 * (k + 1)) in
    by_halves (bits_of lists.words) first c.args.len c.requires.len _ _ _ _ _ _ _ _ _ _
    (word_more _ first c.args.word (omega (arith, c.requires.whole)) c.ranges.word.fits c.requires.word)
    c.ones_of_word.ensures.count
    (subst (counts (first + 2) c.ones_of_word-2.result) after_1 c.ones_of_word-2.ensures.count)
    (subst (counts (first + 3) c.ones_of_word-3.result) after_2 c.ones_of_word-3.ensures.count)
    (subst (counts half c.ones_of_word-4.result) after_3 c.ones_of_word-4.ensures.count)
    (subst (counts (half + 1) c.ones_of_word-5.result) after_p c.ones_of_word-5.ensures.count)
    (subst (counts pair c.ones_of_word-one.result) after_q c.ones_of_word-one.ensures.count)
    c.counted.ensures.product c.counted-2.ensures.product c.counted-3.ensures.product
