-- The digit of the line is that of the lines.
use Rattle.std.proofs.Common.{◌<◌, ◌/◌, ◌%◌, ap, sym, ◌∙◌, arith}
use Rattle.digits.specs.Digits.{digit_in}
use Rattle.digits.specs.Tables.{DigitLists}
use Rattle.digits.proofs.lemmas.TableLemmas.{length-digits_in, item-digits_in}
use Rattle.digits.proofs.ranking.digit_on.Goals as goal

pub returns-clause-answer : goal.returns-clause-answer
returns-clause-answer g c =
    let lists = g.S.DigitSource.lists c.args.source.now in
    let inside : c.args.position < lists.len = omega (arith, c.digits_len.ensures, c.if-position-digits_len.false) in (
      omega (arith, length-digits_in lists c.requires, inside),
      c.digit_at.ensures.value
          ∙ ap (λ (l : DigitLists). digit_in l.lines (c.args.position / 224) (c.args.position % 224)) c.open.ensures.same
          ∙ sym (item-digits_in lists c.args.position c.requires inside),
    )
