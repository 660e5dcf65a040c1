-- The lemma is the law.
use Rattle.digits.proofs.lemmas.LawLemmas.{four_counts_are_all}
use Rattle.digits.proofs.laws.four_counts_are_all.Goals as goal

pub returns : goal.returns
returns c = four_counts_are_all
