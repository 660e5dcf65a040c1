-- The lemma is the law.
use Rattle.digits.proofs.lemmas.LawLemmas.{digit_picks_are_ones}
use Rattle.digits.proofs.laws.digit_picks_are_ones.Goals as goal

pub returns : goal.returns
returns c = digit_picks_are_ones
