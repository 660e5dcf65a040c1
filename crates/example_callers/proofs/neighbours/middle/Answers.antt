-- The member's rank is between those of the two ends, so it stands between them.
use Rattle.std.proofs.Common.{true, ◌+◌, ◌/◌, ◌<◌, arith}
use Rattle.bitm.proofs.BitLaws.{counts_grow, picked_between}
use Rattle.bitm.specs.Count.{ones_before}
use Rattle.example_callers.proofs.neighbours.middle.Goals as goal

pub unreachable-requires : goal.unreachable-requires
unreachable-requires g c =
    omega (arith, c.in-None.ensures, counts_grow (g.I.HasBits.bits c.args.set.now) true _ _ c.requires.inside, c.ones_between-count.ensures, c.if-count-eq0.false)

pub returns : goal.returns
returns g c =
    let b = g.I.HasBits.bits c.args.set.now in
    let below : ones_before b c.args.from + c.ones_between-count.result / 2 < ones_before b c.args.to =
    omega (arith, c.ones_between-count.ensures, c.if-count-eq0.false) in
    let found = c.in-Some.ensures.1 in
    let between = picked_between b true c.args.from c.args.to _ _ (omega arith) below found in
    (c.ones_between-count.ensures, between.0, between.1, found.item)
