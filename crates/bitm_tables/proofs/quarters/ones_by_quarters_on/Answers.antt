-- The ones to the last bit that counts are those before the index.
use Rattle.std.proofs.Common.{◌≡◌, ◌+◌, ◌*◌, ap, ◌∙◌, length, refl, arith}
use Rattle.bit_lists.specs.Bits.{bits_of}
use Rattle.bit_lists.specs.Count.{ones_before}
use Rattle.bit_lists.proofs.lemmas.BitsLemmas.{length-bits_of}
use Rattle.bitm_tables.proofs.lemmas.RankLemmas.{rank_of_none}
use Rattle.bitm_tables.proofs.quarters.ones_by_quarters_on.Goals as goal

pub word_and_ones-requires-clause-inside : goal.word_and_ones-requires-clause-inside
word_and_ones-requires-clause-inside g c = omega (arith, c.requires.inside, length-bits_of (g.T.TableSource.lists c.args.source.now).words)

pub returns-then-index-eq0-clause-answer : goal.returns-then-index-eq0-clause-answer
returns-then-index-eq0-clause-answer g c = λ _ _. (rank_of_none _ c.args.index (omega arith)).1

pub returns-clause-answer : goal.returns-clause-answer
returns-clause-answer g c = λ t h.
    let b = bits_of (g.T.TableSource.lists c.args.source.now).words in
    c.word_and_ones.ensures.ones c.args.quarters.now t h refl ∙ ap (ones_before b) (omega arith)
