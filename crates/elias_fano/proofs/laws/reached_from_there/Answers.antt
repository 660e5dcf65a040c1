use Rattle.elias_fano.proofs.lemmas.SequenceLemmas.{reached-from}
use Rattle.elias_fano.proofs.laws.reached_from_there.Goals as goal

pub returns : goal.returns
returns c = reached-from
