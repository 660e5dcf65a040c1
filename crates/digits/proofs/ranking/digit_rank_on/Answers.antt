-- There are so many digits as the source says.
use Rattle.std.proofs.Common.{arith}
use Rattle.digits.proofs.lemmas.TableLemmas.{length-digits_in}
use Rattle.digits.proofs.ranking.digit_rank_on.Goals as goal

pub returns-clause-answer : goal.returns-clause-answer
returns-clause-answer g c = λ tables. (
  omega (arith, length-digits_in (g.S.DigitSource.lists c.args.source.now) c.requires.sizes, c.digits_len.ensures, c.if-index-digits_len.false),
  c.rank_at.ensures.answer tables,
)
