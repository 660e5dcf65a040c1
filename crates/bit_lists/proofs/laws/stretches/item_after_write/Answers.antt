use Rattle.bit_lists.proofs.BitLaws.{item_after_write}
use Rattle.bit_lists.proofs.laws.stretches.item_after_write.Goals as goal

pub returns : goal.returns
returns c = item_after_write
