-- The two entries count up to the record, its words add their ones, and so does the low part of the last one.
use Rattle.std.proofs.Common.{◌≡◌, ℕ, ◌+◌, ◌*◌, ◌/◌, ◌%◌, ◌^◌, slice_index, sym, ap, ◌∙◌, arith, subst}
use Rattle.bit_lists.specs.Bits.{bits_of}
use Rattle.bit_lists.specs.Count.{ones_before}
use Rattle.bitm_tables.specs.Tables.{Lists, HasTables}
use Rattle.bitm_tables.proofs.lemmas.StretchLemmas.{ones_before-self, word_through}
use Rattle.bitm_tables.proofs.lemmas.TableLemmas.{tables_sum}
use Rattle.bitm_tables.proofs.ranking.word_and_ones.Goals as goal

pub returns-clause-ones : goal.returns-clause-ones
returns-clause-ones g c = λ t.
    let b = bits_of (g.T.TableSource.lists c.args.source.now).words in
    let i = c.args.last in
    let after_entry = c.lower-entry.ensures.same in
    let after_word = c.word-word.ensures.same ∙ after_entry in
    let same = c.added_ones-in_part.ensures.same ∙ after_word in
    let there : i / 512 * 8 + i / 64 % 8 ≡ i / 64 = omega arith in
    let in_it =
    subst (λ (l : Lists). ones_before (bits_of l.words) (64 * (i / 512 * 8)) + c.added_ones-in_part.result ≡ ones_before (bits_of l.words) (64 * (i / 64)) + (c.ones_to_entry.result + c.ones_to_record.result + c.ones_through-in_word.result)) after_word
    (subst (λ (n : ℕ). ones_before (bits_of (g.T.TableSource.lists c.word-word.new.self).words) (64 * (i / 512 * 8)) + c.added_ones-in_part.result
    ≡ ones_before (bits_of (g.T.TableSource.lists c.word-word.new.self).words) (64 * n) + (c.ones_to_entry.result + c.ones_to_record.result + c.ones_through-in_word.result)) there c.added_ones-in_part.ensures.ones) in
    let to_part =
    subst (λ (l : Lists). c.ones_to_part-to_part.result ≡ ones_before (bits_of l.words) (i / 2 ^ 32 * 2 ^ 32)) same
    (c.ones_to_part-to_part.ensures.count (subst HasTables (sym same) t)) in
    let sum = tables_sum _ _ _ t i (omega arith) c.ones_to_part-to_part.result c.lower-entry.result to_part c.lower-entry.ensures.item in
    let part =
    word_through _ i c.word-word.result (omega arith) (c.word-word.ensures.item ∙ ap (λ (l : Lists). slice_index l.words (i / 64)) after_entry) in
    let few = ones_before-self b (i + 1) in
    omega (
      arith,
      sum,
      in_it,
      part,
      few,
      c.ones_to_entry.ensures,
      c.ones_to_record.ensures,
      c.ones_through-in_word.ensures,
      c.requires.inside,
      c.requires.sized.short,
    )
