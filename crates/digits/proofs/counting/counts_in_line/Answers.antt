-- Four counts in one word are those between two positions.
use Rattle.digits.proofs.lemmas.TableLemmas.{packed}
use Rattle.digits.proofs.counting.counts_in_line.Goals as goal

pub returns-clause-middle : goal.returns-clause-middle
returns-clause-middle c =
    packed _ _ _ _ _ _ _ _ c.digit_in_line-zeros.ensures.middle c.digit_in_line-ones.ensures.middle c.digit_in_line-twos.ensures.middle
    c.digit_in_line-threes.ensures.middle c.pack.ensures

pub returns-clause-all : goal.returns-clause-all
returns-clause-all c =
    packed _ _ _ _ _ _ _ _ c.digit_in_line-zeros.ensures.all c.digit_in_line-ones.ensures.all c.digit_in_line-twos.ensures.all
    c.digit_in_line-threes.ensures.all c.pack-2.ensures
