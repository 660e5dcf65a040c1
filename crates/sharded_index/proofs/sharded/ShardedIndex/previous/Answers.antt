-- One less than the rank of the end selects the previous one.
use Rattle.std.proofs.Common.{◌≡◌, ◌+◌, ◌-◌, length, map, min, sym, ◌∙◌, arith}
use Rattle.sharded_index.specs.Joined.{joined}
use Rattle.sharded_index.specs.declared.counts.Kind.TheVariants.{Positions}
use Rattle.tables_view.proofs.NearestLemmas.{previous_none, previous_of}
use Rattle.sharded_index.proofs.LocationLemmas.{claimed_all}
use Rattle.sharded_index.proofs.sharded.ShardedIndex.previous.Goals as goal
use Rattle.sharded_index.proofs.sharded.ShardedIndex.previous.Goals.{then-from-total, else-from-total}

pub returns-then-ranks-eq0-clause-counts : goal.returns-then-ranks-eq0-clause-counts
returns-then-ranks-eq0-clause-counts g c = λ a.
    let b = joined (map g.S.Shard.bits c.args.self.now.shards.now) in
    let long = c.total-total.ensures.claimed ∙ claimed_all (map g.S.Shard.bits c.args.self.now.shards.now) c.args.self.now.counts a.prefixes Positions in
    let ends : c.if-from-total.end ≡ min (c.args.from + 1) (length b) =
    elim c.if-from-total.branch [
      | then-from-total w ↦ omega (arith, long, w.if-from-total.true, w.end-is)
      | else-from-total w ↦ omega (arith, long, w.if-from-total.false, w.end-is)
    ] in
    previous_none b c.args.one c.args.from c.if-from-total.end ends
    (sym c.if-ranks-eq0.true ∙ (c.in-Found.ensures.counts a).1)

pub returns-else-ranks-eq0-clause-counts : goal.returns-else-ranks-eq0-clause-counts
returns-else-ranks-eq0-clause-counts g c = λ a.
    let b = joined (map g.S.Shard.bits c.args.self.now.shards.now) in
    let long = c.total-total.ensures.claimed ∙ claimed_all (map g.S.Shard.bits c.args.self.now.shards.now) c.args.self.now.counts a.prefixes Positions in
    let ends : c.if-from-total.end ≡ min (c.args.from + 1) (length b) =
    elim c.if-from-total.branch [
      | then-from-total w ↦ omega (arith, long, w.if-from-total.true, w.end-is)
      | else-from-total w ↦ omega (arith, long, w.if-from-total.false, w.end-is)
    ] in
    let back : c.in-Found.ranks - 1 + 1 ≡ c.in-Found.ranks = omega (arith, c.if-ranks-eq0.false) in
    previous_of b c.args.one c.args.from c.if-from-total.end ends (c.in-Found.ranks - 1) c.select.result c.only_before.result
    (back ∙ (c.in-Found.ensures.counts a).1) (c.select.ensures.counts a) c.only_before.ensures
