-- The digit of the line is that of the lines, and its rank the rank in its line.
use Rattle.std.proofs.Common.{◌≡◌, ◌+◌, ◌*◌, ◌/◌, ◌%◌, ◌<◌, ◌≤◌, sym, ap, subst, ◌∙◌, arith}
use Rattle.digits.specs.Digits.{digit_in, digits_of, digits_before}
use Rattle.digits.specs.Tables.{DigitLists, HasDigitTables}
use Rattle.digits.proofs.lemmas.TableLemmas.{length-digits_in, item-digits_in, before-digits_in}
use Rattle.digits.proofs.ranking.digit_and_rank_on.Goals as goal

pub returns-clause-digit : goal.returns-clause-digit
returns-clause-digit g c =
    let lists = g.S.DigitSource.lists c.args.source.now in
    let inside : c.args.position < lists.len = omega (arith, c.digits_len.ensures, c.if-position-digits_len.false) in (
      omega (arith, length-digits_in lists c.requires, inside),
      c.digit_at-digit.ensures.value
          ∙ ap (λ (l : DigitLists). digit_in l.lines (c.args.position / 224) (c.args.position % 224)) c.open.ensures.same
          ∙ sym (item-digits_in lists c.args.position c.requires inside),
    )

pub returns-clause-rank : goal.returns-clause-rank
returns-clause-rank g c = λ tables.
    let lists = g.S.DigitSource.lists c.args.source.now in
    let i = c.args.position in
    let d = c.digit_at-digit.result in
    let within : i ≤ lists.len = omega (arith, c.digits_len.ensures, c.if-position-digits_len.false) in
    let position : 224 * (i / 224) + i % 224 ≡ i = omega arith in
    let right = subst (λ (l : DigitLists). HasDigitTables l) (sym c.open.ensures.same) tables in
    c.rank_in_line-rank.ensures.answer right
    ∙ ap (λ (l : DigitLists). digits_before d (digits_of l.lines) (224 * (i / 224) + i % 224)) c.open.ensures.same
    ∙ ap (digits_before d (digits_of lists.lines)) position
    ∙ sym (before-digits_in lists d i within)
