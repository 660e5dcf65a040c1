-- Two whole words.
use Rattle.std.proofs.Common.{◌≡◌, ◌+◌, ◌*◌, slice_index, ap, ◌∙◌, arith}
use Rattle.bit_lists.specs.Bits.{bits_of}
use Rattle.bit_lists.specs.Count.{ones_before}
use Rattle.bitm_tables.specs.Tables.{Lists}
use Rattle.bitm_tables.proofs.lemmas.StretchLemmas.{word_more}
use Rattle.bitm_tables.proofs.quarters.ones_of_quarter.Goals as goal

pub returns-then-first-words_len-clause-ones : goal.returns-then-first-words_len-clause-ones
returns-then-first-words_len-clause-ones g c = λ inside.
    let words = (g.T.TableSource.lists c.args.source.now).words in
    let k = c.args.first in
    let second = c.word-then-first-words_len in
    let next : 64 * (k + 1 + 1) ≡ 64 * (k + 2) = omega arith in
    omega (
      arith,
      word_more words k c.word.result (omega (arith, inside)) c.word.type_inv c.word.ensures.item,
      word_more words (k + 1) second.result (omega (arith, inside)) second.type_inv
          (second.ensures.item ∙ ap (λ (l : Lists). slice_index l.words (k + 1)) c.word.ensures.same),
      ap (ones_before (bits_of words)) next,
    )
