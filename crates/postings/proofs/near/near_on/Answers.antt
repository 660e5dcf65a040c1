-- The numbers passed have fewer zeros before their ones than the value wants.
use Rattle.std.proofs.Common.{◌≡◌, ℕ, ◌+◌, ◌-◌, ◌/◌, ◌^◌, ◌<◌, get_or, ap, subst, arith}
use Rattle.std.proofs.lemmas.Nat.{pow_pos}
use Rattle.bit_lists.proofs.BitLaws.{bits_are_counted}
use Rattle.bitm_tables.specs.Tables.{bits_in, Lists}
use Rattle.elias_fano.specs.Buckets.{CountsTo}
use Rattle.elias_fano.specs.SequenceParts.{parts_with, Holds}
use Rattle.postings.specs.Spot.{IsBehind, IsNear}
use Rattle.postings.proofs.SpotLemmas.{less_by_quotient, less_to, ones_after, ones_after_zero}
use Rattle.postings.proofs.near.near_on.Goals as goal

pub overflow_add-spot-then-saturating_sub-above : goal.overflow_add-spot-then-saturating_sub-above
overflow_add-spot-then-saturating_sub-above g c =
    omega (arith, c.requires.inside, bits_are_counted (g.T.TableSource.lists c.args.source.now).words, c.requires.short)

pub returns-then-saturating_sub-above-clause-near : goal.returns-then-saturating_sub-above-clause-near
returns-then-saturating_sub-above-clause-near g c = λ xs h s.
    c.walk_on.ensures.near xs h (record {
      count = omega (arith, s.inside);
      before = ones_after (bits_in (g.T.TableSource.lists c.args.source.now)) c.args.spot.at c.args.spot.one s.one;
      less = λ j l. less_to xs c.args.v c.args.spot.at j h.are.sequence.rising s.inside (omega (arith, s.number, c.requires.less)) l;
    })

pub overflow_add-zero : goal.overflow_add-zero
overflow_add-zero g c = omega (arith, c.in-Some.ensures.within, bits_are_counted (g.T.TableSource.lists c.args.source.now).words, c.requires.short)

pub returns-clause-near : goal.returns-clause-near
returns-clause-near g c = λ xs h s.
    let lists = g.T.TableSource.lists c.args.source.now in
    let b = bits_in lists in
    let n = c.args.n in
    let at = c.in-Some-count_at_zero.at in
    let zero = c.in-Some.zero in
    let picks = c.in-Some.ensures.zero s.one (omega (arith, c.if-saturating_sub-above.false, c.saturating_sub.ensures)) in
    let w = c.args.low.now.width in
    let counts : CountsTo xs w (c.args.v / 2 ^ c.width.result - 1) at = c.in-Some-count_at_zero.ensures.count xs w lists.words h.are.upper_is h.are.count picks in
    let before = ones_after_zero b _ zero picks in
    let top : zero < 2 ^ 64 = omega (arith, picks.inside, bits_are_counted lists.words, c.requires.short) in
    let above : c.args.v / 2 ^ c.width.result ≡ c.args.v / 2 ^ w = ap (λ (k : ℕ). c.args.v / 2 ^ k) c.width.ensures in
    let behind : IsBehind xs lists.words c.args.v at (zero + 1) = record {
      count = counts.bound;
      before = omega (arith, before, top, c.in-Some-count_at_zero.ensures.is);
      less = λ j l. less_by_quotient (get_or xs j 0) c.args.v (2 ^ w) (pow_pos w) (omega (arith, counts.below j l, above, c.if-saturating_sub-above.false));
    } in
    subst (λ (l : Lists). Holds xs (parts_with n c.args.low.now l) → IsBehind xs l.words c.args.v at (zero + 1) → IsNear xs l.words c.args.v c.walk_on-2.result)
    c.skip_on.ensures.reads.same (c.walk_on-2.ensures.near xs) h behind
