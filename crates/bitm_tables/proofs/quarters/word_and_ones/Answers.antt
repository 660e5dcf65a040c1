-- The upper entry counts up to the part, the record's number up to the quarter, and two words up to the bit.
use Rattle.std.proofs.Common.{◌≡◌, ◌+◌, ◌*◌, ◌/◌, ◌^◌, ◌<◌, length, slice_index, sym, ap, ◌∙◌, arith, subst}
use Rattle.bit_lists.proofs.lemmas.BitsLemmas.{length-bits_of}
use Rattle.bit_lists.specs.Bits.{bits_of}
use Rattle.bit_lists.specs.Count.{ones_before}
use Rattle.bitm_tables.specs.Tables.{Lists, HasTables}
use Rattle.bitm_tables.proofs.lemmas.QuarterLemmas.{quarters_sum}
use Rattle.bitm_tables.proofs.lemmas.StretchLemmas.{ones_before-self}
use Rattle.bitm_tables.proofs.quarters.word_and_ones.Goals as goal

pub returns-clause-ones : goal.returns-clause-ones
returns-clause-ones g c = λ quarters tables h number.
    let l = g.T.TableSource.lists c.args.source.now in
    let i = c.args.last in
    let first = c.word-first.ensures in
    let same = c.word-word.ensures.same ∙ first.same in
    let inside : i < length (bits_of l.words) = omega (arith, c.requires.inside, length-bits_of l.words) in
    let to_part =
    subst (λ (m : Lists). c.ones_to_part-to_part.result ≡ ones_before (bits_of m.words) (i / 2 ^ 32 * 2 ^ 32)) same
    (c.ones_to_part-to_part.ensures.count (subst HasTables (sym same) tables)) in
    omega (
      arith,
      c.ones_to_entry-to_record.ensures,
      c.ones_to_quarter-to_quarter.ensures,
      c.ones_through-in_word.ensures,
      quarters_sum l.words quarters h i inside c.ones_to_part-to_part.result c.args.number c.word-first.result c.word-word.result
          c.word-first.type_inv to_part number first.item
          (c.word-word.ensures.item ∙ ap (λ (m : Lists). slice_index m.words (i / 64)) first.same),
      ones_before-self (bits_of l.words) (i + 1),
      inside,
      length-bits_of l.words,
      c.requires.sized.short,
    )
