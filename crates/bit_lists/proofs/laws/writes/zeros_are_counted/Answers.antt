use Rattle.bit_lists.proofs.BitLaws.{zeros_are_counted}
use Rattle.bit_lists.proofs.laws.writes.zeros_are_counted.Goals as goal

pub returns : goal.returns
returns c = zeros_are_counted
