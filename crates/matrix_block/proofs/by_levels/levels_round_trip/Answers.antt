-- The law is a lemma.
use Rattle.matrix_block.proofs.LevelLemmas.{levels_round_trip}
use Rattle.matrix_block.proofs.by_levels.levels_round_trip.Goals as goal

pub returns : goal.returns
returns c = levels_round_trip
