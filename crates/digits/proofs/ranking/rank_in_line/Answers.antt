-- The number of the table is read, and the lists stay as they are.
use Rattle.std.proofs.Common.{◌+◌, ◌*◌, ◌/◌, get_or, sym, ap, subst, ◌∙◌}
use Rattle.digits.specs.Digits.{digits_of, digits_before}
use Rattle.digits.specs.Tables.{DigitLists, HasDigitTables}
use Rattle.digits.proofs.ranking.rank_in_line.Goals as goal

pub returns-clause-answer : goal.returns-clause-answer
returns-clause-answer g c = λ tables.
    let same = c.number-before.ensures.same in
    let d = c.args.digit in
    let k = c.args.line in
    c.rank_from.ensures (subst HasDigitTables (sym same) tables)
    (c.number-before.ensures.item ∙ sym (ap (λ (l : DigitLists). get_or l.table (4 * (k / 256) + d) 0) same))
    ∙ ap (λ (l : DigitLists). digits_before d (digits_of l.lines) (224 * k + c.args.position)) same
