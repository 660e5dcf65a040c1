use Rattle.bit_lists.proofs.BitLaws.{picked_in_stretch}
use Rattle.bit_lists.proofs.laws.stretches.picked_in_stretch.Goals as goal

pub returns : goal.returns
returns c = picked_in_stretch
