-- The first node on the way up with a number up to that of `above` is `above` exactly where that is on the way.
use Rattle.louds.proofs.lemmas.AboveLemmas.{climbed_is}
use Rattle.louds.proofs.tree.Louds.is_ancestor.Goals as goal

pub returns : goal.returns
returns g c = climbed_is c.args.self.now.degrees c.args.node c.args.above c.climb.result c.len-nodes.ensures.tree c.requires c.climb.ensures.climbed
