-- The bit of the word that is read is the bit.
use Rattle.std.proofs.Common.{◌∙◌, arith}
use Rattle.bit_lists.proofs.BitLaws.{bits_are_counted}
use Rattle.perfect_hash.proofs.lemmas.WordLemmas.{bit_alone}
use Rattle.perfect_hash.proofs.asking.is_one_on.Goals as goal

pub returns-clause-bit : goal.returns-clause-bit
returns-clause-bit g c =
    let words = (g.T.TableSource.lists c.args.source.now).words in
    c.get_bit.ensures
    ∙ bit_alone words c.word.result c.args.position (omega (arith, c.requires, bits_are_counted words)) c.word.ensures.item
