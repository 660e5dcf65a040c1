-- The rank of the length counts all digits.
use Rattle.std.proofs.Common.{sym, ap, ◌∙◌}
use Rattle.digits.specs.Digits.{digits_before}
use Rattle.digits.specs.Tables.{digits_in}
use Rattle.digits.proofs.lemmas.TableLemmas.{length-digits_in}
use Rattle.digits.proofs.ranking.digit_count_on.Goals as goal

pub returns-clause-answer : goal.returns-clause-answer
returns-clause-answer g c = λ tables.
    let lists = g.S.DigitSource.lists c.args.source.now in
    c.rank_at.ensures.answer tables
    ∙ ap (digits_before c.args.digit (digits_in lists)) (c.digits_len-len.ensures ∙ sym (length-digits_in lists c.requires.sizes))
