use Rattle.bit_lists.proofs.BitLaws.{one_more_is_cleared}
use Rattle.bit_lists.proofs.laws.writes.one_more_is_cleared.Goals as goal

pub returns : goal.returns
returns c = one_more_is_cleared
