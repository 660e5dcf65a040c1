-- The last shard before which there are no more is the one that holds the number.
use Rattle.std.proofs.Common.{◌≡◌, ◌-◌, ◌<◌, ◌≤◌, ℕ, length, ap, arith, ⊎_elim}
use Rattle.std.proofs.lemmas.Bool.{cases_lt}
use Rattle.bitm_tables.specs.declared.answer.Answer.TheVariants.{Wrong}
use Rattle.sharded_index.specs.Prefixes.{claimed, shard_count}
use Rattle.sharded_index.proofs.LocationLemmas.{placed, placed_by}
use Rattle.sharded_index.proofs.counts.PrefixCounts.find.Goals as goal

pub returns-then-before-number-clause-right : goal.returns-then-before-number-clause-right
returns-then-before-number-clause-right c = λ bs h.
    placed_by bs c.args.self.now h c.args.of c.args.number Wrong
    (omega (arith, c.if-before-number.true, c.before-2.ensures.claimed), omega (arith, c.if-total-number.false, c.total.ensures.claimed))

pub returns-clause-right : goal.returns-clause-right
returns-clause-right c = λ bs h.
    let counts = c.args.self.now in
    let count : ℕ → ℕ = claimed c.args.of counts in
    let k = c.last_before-shard.result in
    let last = c.last_before-shard.ensures in
    let inside : k < shard_count counts =
    ⊎_elim
    (λ (less : k < length counts.bits - 1). less)
    (λ (least : length counts.bits - 1 ≤ k).
    let e : k ≡ length counts.bits - 1 = omega (arith, least, last.inside) in
    absurd (omega (arith, ap count e, last.at_most, c.if-total-number.false, c.total.ensures.claimed)))
    (cases_lt k (length counts.bits - 1)) in
    placed bs counts h c.args.of c.args.number _ (record {
      inside = inside;
      is = omega (arith, last.at_most, c.before-3.ensures.claimed);
      next = last.next (omega (arith, inside));
    })
