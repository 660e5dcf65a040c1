-- The law is a lemma.
use Rattle.hash_block.proofs.SeededBlockLemmas.{round_trip}
use Rattle.hash_block.proofs.seeded.building.round_trip.Goals as goal

pub returns : goal.returns
returns c = round_trip
