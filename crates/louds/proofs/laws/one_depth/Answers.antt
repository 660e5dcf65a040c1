use Rattle.louds.proofs.lemmas.AboveLemmas.{one_depth}
use Rattle.louds.proofs.laws.one_depth.Goals as goal

pub returns : goal.returns
returns c = one_depth
