-- The ones before the bit are those to it, less the bit.
use Rattle.std.proofs.Common.{◌*◌, ◌<◌, length, refl, arith}
use Rattle.bit_lists.proofs.lemmas.BitsLemmas.{length-bits_of}
use Rattle.bitm_tables.proofs.quarters.bit_and_ones_by_quarters_on.Goals as goal
use Rattle.bitm_tables.proofs.quarters.bit_and_ones_by_quarters_on.Goals.{After-bit_and_ones_before}

inside : (g : _) (c : After-bit_and_ones_before g) → c.args.position < 64 * length (g.T.TableSource.lists c.args.source.now).words
inside g c = omega (arith, c.requires.inside, length-bits_of (g.T.TableSource.lists c.args.source.now).words)

pub word_and_ones-word-requires-clause-inside : goal.word_and_ones-word-requires-clause-inside
word_and_ones-word-requires-clause-inside g c = omega (arith, c.requires.inside, length-bits_of (g.T.TableSource.lists c.args.source.now).words)

pub returns-clause-bit : goal.returns-clause-bit
returns-clause-bit g c =
    let words = (g.T.TableSource.lists c.args.source.now).words in
    let here = inside g (goal.at.returns-clause-bit g c).After-bit_and_ones_before in
    c.bit_and_ones_before.ensures.bit words here c.word_and_ones-word.ensures.word

pub returns-clause-answer : goal.returns-clause-answer
returns-clause-answer g c = λ tables h.
    let words = (g.T.TableSource.lists c.args.source.now).words in
    let here = inside g (goal.at.returns-clause-answer g c).After-bit_and_ones_before in
    let e = c.word_and_ones-word.ensures in
    c.bit_and_ones_before.ensures.ones words c.requires.sized.short here e.word (e.ones c.args.quarters.now tables h refl)
