use Rattle.bit_lists.proofs.BitLaws.{none_picked_from_the_count_on}
use Rattle.bit_lists.proofs.laws.none_picked_from_the_count_on.Goals as goal

pub returns : goal.returns
returns c = none_picked_from_the_count_on
