-- The ones before the bit are those to it, less the bit.
use Rattle.std.proofs.Common.{◌*◌, ◌<◌, length, arith}
use Rattle.bit_lists.proofs.lemmas.BitsLemmas.{length-bits_of}
use Rattle.bitm_tables.proofs.ranking.total_bit_and_rank_on.Goals as goal
use Rattle.bitm_tables.proofs.ranking.total_bit_and_rank_on.Goals.{After-bit_and_ones_before}

inside : (g : _) (c : After-bit_and_ones_before g) → c.args.position < 64 * length (g.T.TableSource.lists c.args.source.now).words
inside g c = omega (arith, c.words_len.ensures, c.if-position-words_len.false)

pub returns-clause-bit : goal.returns-clause-bit
returns-clause-bit g c =
    let words = (g.T.TableSource.lists c.args.source.now).words in
    let here = inside g (goal.at.returns-clause-bit g c).After-bit_and_ones_before in
    (omega (arith, here, length-bits_of words), c.bit_and_ones_before.ensures.bit words here c.word_and_ones-word.ensures.word)

pub returns-clause-ones : goal.returns-clause-ones
returns-clause-ones g c = λ tables.
    let words = (g.T.TableSource.lists c.args.source.now).words in
    let here = inside g (goal.at.returns-clause-ones g c).After-bit_and_ones_before in
    let e = c.word_and_ones-word.ensures in
    c.bit_and_ones_before.ensures.ones words c.requires.short here e.word (e.ones tables)
