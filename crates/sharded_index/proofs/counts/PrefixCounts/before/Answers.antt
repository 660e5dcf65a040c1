-- What is claimed is so where the numbers are those of the shards.
use Rattle.std.proofs.Common.{◌≡◌, rules, ◌∙◌, arith}
use Rattle.sharded_index.specs.Prefixes.{claimed}
use Rattle.sharded_index.proofs.LocationLemmas.{claimed_is}
use Rattle.sharded_index.proofs.counts.PrefixCounts.before.Goals as goal

pub returns-clause-right : goal.returns-clause-right
returns-clause-right c = λ bs h.
    let is : c.claimed_before.result ≡ claimed c.args.of c.args.self.now c.args.shard = search rules in
    is ∙ claimed_is bs c.args.self.now h c.args.of c.args.shard (omega (arith, c.requires, h.bits_len))
