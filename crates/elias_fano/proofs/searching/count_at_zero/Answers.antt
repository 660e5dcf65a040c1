-- As many ones stand before a zero as items have no more above their low digits, and that is a number of items.
use Rattle.std.proofs.Common.{◌≡◌, ℕ, ◌+◌, ◌-◌, ◌%◌, ◌^◌, subst, arith}
use Rattle.elias_fano.proofs.lemmas.BucketLemmas.{CountsTo-zero, zeros-at_most}
use Rattle.elias_fano.specs.Buckets.{CountsTo}
use Rattle.elias_fano.proofs.searching.count_at_zero.Goals as goal

pub returns-then-count-n-clause-count : goal.returns-then-count-n-clause-count
returns-then-count-n-clause-count c = λ xs l upper h n one.
    let after = zeros-at_most _ c.args.above c.args.position one in
    let count : c.args.position - c.args.above ≡ (c.args.position + (2 ^ 64 - c.args.above)) % 2 ^ 64 =
    omega (arith, after, c.ranges.above.fits, c.ranges.position.fits) in
    let P : ℕ → Type 0 = CountsTo xs l c.args.above in
    subst P count (CountsTo-zero xs l _ h c.args.above c.args.position one)

pub returns-else-count-n-clause-count : goal.returns-else-count-n-clause-count
returns-else-count-n-clause-count c = λ xs l upper h n one.
    let after = zeros-at_most _ c.args.above c.args.position one in
    let few = CountsTo-zero xs l _ h c.args.above c.args.position one in
    omega (arith, after, few.bound, n, c.if-count-n.false, c.ranges.above.fits, c.ranges.position.fits)
