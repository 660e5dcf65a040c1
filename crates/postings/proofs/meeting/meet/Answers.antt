-- A turn writes a number that is next in both blocks, and passes the lesser of the two.
use Rattle.std.proofs.Common.{◌≡◌, ℕ, ◌+◌, ◌-◌, ◌^◌, ◌<◌, ◌≤◌, ◌==◌, IsTrue, inl, get_or, eq-eqb, ◌∙◌, subst, arith}
use Rattle.std.proofs.lemmas.Bool.{eqb-true}
use Rattle.postings.specs.Pair.{pair_from}
use Rattle.postings.specs.Shared.{IsInAll}
use Rattle.postings.proofs.MeetLemmas.{back_in_all, both_in, both_more, kept_in_all, meeting_passed}
use Rattle.postings.proofs.PairLemmas.{head_of_block, head_passed, pair_keeps, passed_within}
use Rattle.postings.proofs.meeting.meet.Goals as goal

pub loop-now-preserved : goal.loop-now-preserved
loop-now-preserved c =
    let i = c.loop-now.invariant in
    let w = c.write_shared-count.ensures in
    let now = c.loop-now.now in
    let a = get_or c.args.one.numbers.now now.one 0 in
    let b = get_or c.args.other.numbers.now now.other 0 in
    let least = c.min-least.result in
    let some : least < 2 ^ 64 - 1 = omega (arith, c.min-least.type_inv, c.if-least.false) in
    let one_in : now.one < c.args.one.len = c.if-now-one.true in
    let other_in : now.other < c.args.other.len = c.if-now-other.true in
    record {
      one = passed_within c.args.one.len now.one c.passed.result a least i.one some (λ past. absurd (omega (arith, past, one_in))) c.passed.ensures.past
          c.passed.ensures.same;
      other = passed_within c.args.other.len now.other c.passed-in-loop-now.result b least i.other some (λ past. absurd (omega (arith, past, other_in)))
          c.passed-in-loop-now.ensures.past c.passed-in-loop-now.ensures.same;
      more = omega (arith, i.more, w.count.0);
      room = omega (arith, w.count.1, c.loop-now-test.true, c.loop-now.auto.out);
      rest = (w.rest.0 ∙ i.rest.0, λ k past. w.rest.1 k past ∙ i.rest.1 k (omega (arith, past, w.count.0)));
      meets = λ old xs ys p q from one other one_rising other_rising was.
          let before = i.meets old xs ys p q from one other one_rising other_rising was in
          let first = head_of_block xs c.args.one.numbers.now p c.args.one.len now.one a ⊥ one (λ none. absurd none) (inl one_in)
          (λ l. omega arith) (λ past. absurd (omega (arith, past, one_in))) in
          let second = head_of_block ys c.args.other.numbers.now q c.args.other.len now.other b ⊥ other (λ none. absurd none) (inl other_in)
          (λ l. omega arith) (λ past. absurd (omega (arith, past, other_in))) in
          let here = pair_from xs (p + now.one) ys (q + now.other) in
          let there : IsTrue (a == b) → now.low ≤ least → IsInAll old least = λ both from_low.
          let same : a ≡ b = eqb-true a b both in
          let is : a ≡ least = omega (arith, c.min-least.ensures, same) in
          back_in_all old here now.low least before.keeps
          (subst (IsInAll here) is
          (both_in xs ys (p + now.one) (q + now.other) a b one_rising other_rising first second (omega (arith, one_in, one.within))
          (omega (arith, other_in, other.within)) same)) in
          let none : (x : ℕ) → now.low ≤ x → x ≤ least → IsInAll old x → IsTrue (a == b) × (x ≡ least) = λ x from_low most all.
          let more = both_more xs ys (p + now.one) (q + now.other) a b one_rising other_rising first second x
          (kept_in_all old here now.low x before.keeps from_low all) in (
            eq-eqb a b (omega (arith, c.min-least.ensures, more.0, more.1, most)),
            omega (arith, c.min-least.ensures, more.0, more.1, most),
          ) in
          let written = w.meets old here from before there none in
          let one_moved = head_passed xs p now.one c.passed.result a least c.write_shared-count.result.1 first some w.low c.passed.ensures.past c.passed.ensures.same in
          let other_moved = head_passed ys q now.other c.passed-in-loop-now.result b least c.write_shared-count.result.1 second some w.low
          c.passed-in-loop-now.ensures.past c.passed-in-loop-now.ensures.same in
          meeting_passed old here (pair_from xs (p + c.passed.result) ys (q + c.passed-in-loop-now.result)) from c.write_shared-count.result.0
          c.write_shared-count.result.1 c.write_shared-count.new.out written
          (pair_keeps xs ys (p + now.one) (p + c.passed.result) (q + now.other) (q + c.passed-in-loop-now.result) c.write_shared-count.result.1
          one_moved.0 one_moved.1 other_moved.0 other_moved.1);
    }
