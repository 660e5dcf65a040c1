use Rattle.sharded_index.proofs.JoinedLaws as laws
use Rattle.sharded_index.proofs.laws.picked_in_joined.Goals as goal

pub returns : goal.returns
returns c = laws.picked_in_joined
