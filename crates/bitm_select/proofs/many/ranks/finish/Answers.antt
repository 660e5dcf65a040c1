-- The two entries count up to the record, its words add their ones, and so does the low part of the last one.
use Rattle.std.proofs.Common.{◌≡◌, ℕ, ◌+◌, ◌*◌, ◌/◌, ◌%◌, ◌^◌, sym, ap, subst, arith}
use Rattle.bit_lists.specs.Bits.{bits_of}
use Rattle.bit_lists.specs.Count.{ones_before}
use Rattle.bitm_tables.specs.Tables.{Lists, HasTables}
use Rattle.bitm_tables.proofs.lemmas.StretchLemmas.{ones_before-self, word_through}
use Rattle.bitm_tables.proofs.lemmas.TableLemmas.{tables_sum}
use Rattle.bitm_select.proofs.many.ranks.finish.Goals as goal

pub returns-clause-ones : goal.returns-clause-ones
returns-clause-ones g c = λ t.
    let b = bits_of (g.T.TableSource.lists c.args.source.now).words in
    let i = c.args.last in
    let r = c.ones_to_word-in_record.ensures in
    let end : i / 512 * 8 + i / 64 % 8 ≡ i / 64 = omega arith in
    let to_part =
    subst (λ (l : Lists). c.ones_to_part-to_part.result ≡ ones_before (bits_of l.words) (i / 2 ^ 32 * 2 ^ 32)) r.same
    (c.ones_to_part-to_part.ensures.count (subst HasTables (sym r.same) t)) in
    let sum = tables_sum _ _ _ t i (omega (arith, c.requires.inside)) c.ones_to_part-to_part.result c.args.begun.entry to_part c.requires.begun.entry in
    let part = word_through _ i c.args.begun.word (omega (arith, c.requires.inside)) c.requires.begun.word in
    let few = ones_before-self b (i + 1) in
    omega (
      arith,
      sum,
      r.ones,
      ap (λ (k : ℕ). ones_before b (64 * k)) end,
      part,
      few,
      c.ones_to_entry.ensures,
      c.ones_to_record.ensures,
      c.ones_through-in_word.ensures,
      c.requires.inside,
      c.requires.sized.short,
    )
