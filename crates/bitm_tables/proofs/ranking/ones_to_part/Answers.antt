-- The upper entry counts the ones before the part, and none stand before the only one.
use Rattle.std.proofs.Common.{◌≡◌, ℕ, ◌*◌, ◌^◌, ◌∙◌, ap, sym, arith}
use Rattle.bit_lists.proofs.lemmas.BitsLemmas.{length-bits_of}
use Rattle.bit_lists.proofs.lemmas.CountLemmas.{ones_before_none}
use Rattle.bit_lists.specs.Bits.{bits_of}
use Rattle.bit_lists.specs.Count.{ones_before}
use Rattle.bitm_tables.proofs.lemmas.TableLemmas.{entries}
use Rattle.bitm_tables.proofs.ranking.ones_to_part.Goals as goal

pub returns-then-words_len-le-U64_PER_L1_ENTRY-clause-count : goal.returns-then-words_len-le-U64_PER_L1_ENTRY-clause-count
returns-then-words_len-le-U64_PER_L1_ENTRY-clause-count g c = λ t.
    let l = g.T.TableSource.lists c.args.source.now in
    let b = bits_of l.words in
    let parts = (entries b l.upper l.lower t).upper_length in
    let first : c.args.part ≡ 0 =
    omega (arith, c.requires, parts, length-bits_of l.words, c.words_len.ensures, c.if-words_len-le-U64_PER_L1_ENTRY.true) in
    sym (ap (λ (k : ℕ). ones_before b (k * 2 ^ 32)) first ∙ ones_before_none b)

pub returns-else-words_len-le-U64_PER_L1_ENTRY-clause-count : goal.returns-else-words_len-le-U64_PER_L1_ENTRY-clause-count
returns-else-words_len-le-U64_PER_L1_ENTRY-clause-count g c = λ t. c.upper.ensures.item ∙ (entries _ _ _ t).upper_is c.args.part c.requires
