use Rattle.bit_lists.proofs.BitLaws.{picked_between}
use Rattle.bit_lists.proofs.laws.stretches.picked_between.Goals as goal

pub returns : goal.returns
returns c = picked_between
