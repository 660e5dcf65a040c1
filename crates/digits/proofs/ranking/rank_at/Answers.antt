-- The line and the position in it are those of the index.
use Rattle.std.proofs.Common.{◌≡◌, ◌+◌, ◌*◌, ◌/◌, ◌%◌, sym, ap, subst, ◌∙◌, arith}
use Rattle.digits.specs.Digits.{digits_of, digits_before}
use Rattle.digits.specs.Tables.{DigitLists, HasDigitTables}
use Rattle.digits.proofs.lemmas.TableLemmas.{before-digits_in}
use Rattle.digits.proofs.ranking.rank_at.Goals as goal

pub returns-clause-answer : goal.returns-clause-answer
returns-clause-answer g c = λ tables.
    let lists = g.S.DigitSource.lists c.args.source.now in
    let i = c.args.index in
    let d = c.args.digit in
    let position : 224 * (i / 224) + i % 224 ≡ i = omega arith in
    c.rank_in_line.ensures.answer (subst HasDigitTables (sym c.open.ensures.same) tables)
    ∙ ap (λ (l : DigitLists). digits_before d (digits_of l.lines) (224 * (i / 224) + i % 224)) c.open.ensures.same
    ∙ ap (digits_before d (digits_of lists.lines)) position
    ∙ sym (before-digits_in lists d i c.requires.index)
