-- One quarter after another is right, or the first that is not ends the check.
use Rattle.std.proofs.Common.{ℕ, ◌/◌, length, slice_index, ap, subst, sym, rules, arith}
use Rattle.std.specs.Int.{div_ceil}
use Rattle.bit_lists.proofs.lemmas.BitsLemmas.{length-bits_of}
use Rattle.bitm_tables.specs.Tables.{bits_in, Lists}
use Rattle.bitm_tables.proofs.lemmas.QuarterLemmas.{records_of}
use Rattle.levels_view.specs.Quarters.{CountsToQuarter}
use Rattle.levels_view.proofs.QuarterLemmas.{quarters-each, quarters-of}
use Rattle.levels_view.proofs.quarters.are_quarters.Goals as goal

pub returns-then-quarters-div_ceil-clause-answer : goal.returns-then-quarters-div_ceil-clause-answer
returns-then-quarters-div_ceil-clause-answer g c = (
  search rules,
  λ h.
      let words = (g.T.TableSource.lists c.args.source.now).words in
      absurd (omega (
        arith,
        h.len,
        c.if-quarters-div_ceil.true,
        c.div_ceil.ensures,
        c.words_len-words.ensures,
        records_of (length words),
        ap (λ (n : ℕ). div_ceil n 512) (length-bits_of words),
      )),
)

pub returns-then-not-counts_to-clause-answer : goal.returns-then-not-counts_to-clause-answer
returns-then-not-counts_to-clause-answer g c =
    let k = c.loop-quarter.quarter in (
      search rules,
      λ h. c.if-not-counts_to.ensures.answer.1
          (subst (λ (s : Lists). CountsToQuarter (bits_in s) k (slice_index c.args.quarters.now (k / 4))) (sym c.loop-quarter.invariant.same)
          (quarters-each (g.T.TableSource.lists c.args.source.now).words c.args.quarters.now h k
          (omega (arith, c.loop-quarter-test.true, c.div_ceil-quarter-end.ensures, c.words_len-words.ensures)))),
    )

pub returns-clause-answer : goal.returns-clause-answer
returns-clause-answer g c = (
  λ _. quarters-of (g.T.TableSource.lists c.args.source.now).words c.args.quarters.now
      (omega (arith, c.if-quarters-div_ceil.false, c.div_ceil.ensures, c.words_len-words.ensures))
      (λ k less. c.loop-quarter.invariant.right k
      (omega (arith, less, c.loop-quarter-test.false, c.loop-quarter.auto.quarter-end, c.div_ceil-quarter-end.ensures, c.words_len-words.ensures))),
  search rules,
)
