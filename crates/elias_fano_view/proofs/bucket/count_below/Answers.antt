-- Those with less than a number have at most the one before it.
use Rattle.std.proofs.Common.{ℕ, ◌-◌, ◌<◌, List, arith}
use Rattle.std.specs.Prelude.{Option, Some, None, IsSomeAnd}
use Rattle.elias_fano.specs.Buckets.{CountsTo, CountsBelow}
use Rattle.elias_fano_view.proofs.bucket.count_below.Goals as goal

below : (xs : List ℕ) (l above : ℕ) (o : Option ℕ) → 0 < above → IsSomeAnd o (CountsTo xs l (above - 1))
    → IsSomeAnd o (CountsBelow xs l above)
below xs l above None some h = h
below xs l above (Some c) some h = record {
  bound = h.bound;
  below = λ j less. omega (arith, h.below j less);
  above = λ j from inside. omega (arith, h.above j from inside);
}

pub returns-clause-count : goal.returns-clause-count
returns-clause-count c = λ xs l upper h tables short n claimed.
    let some : 0 < c.args.above = omega (arith, c.if-above-eq0.false) in
    below xs l c.args.above _ some (c.count_to.ensures.count xs l upper h tables short n (claimed some))
