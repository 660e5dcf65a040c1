use Rattle.elias_fano.proofs.lemmas.SequenceLemmas.{first-of-equal}
use Rattle.elias_fano.proofs.laws.first_of_equal.Goals as goal

pub returns : goal.returns
returns c = first-of-equal
