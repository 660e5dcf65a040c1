-- One position is picked for the number: the member, and what was found.
use Rattle.bitm.proofs.BitLaws.{at_most_one_picked}
use Rattle.example_callers.proofs.dense.again.Goals as goal

pub returns : goal.returns
returns g c = at_most_one_picked _ _ _ _ _ c.member_of.ensures c.number_of-number.ensures
