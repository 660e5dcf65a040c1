-- A turn writes the least number and passes it in both blocks.
use Rattle.std.proofs.Common.{◌≡◌, ◌+◌, ◌-◌, ◌^◌, ◌<◌, ◌≤◌, ◌⊎◌, inl, inr, IsTrue, sym, ◌∙◌, arith, ⊎_elim}
use Rattle.std.proofs.lemmas.Bool.{cases_lt}
use Rattle.postings.specs.Pair.{pair_from}
use Rattle.postings.proofs.PairLemmas.{head_of_block, head_passed, joining_passed, pair_keeps, pair_least, passed_within}
use Rattle.postings.proofs.pair.merge.Goals as goal
use Rattle.postings.proofs.pair.merge.Goals.{then-now-one, else-now-one, then-now-other, else-now-other}

pub loop-now-preserved : goal.loop-now-preserved
loop-now-preserved c =
    let i = c.loop-now.invariant in
    let w = c.write-count.ensures in
    let now = c.loop-now.now in
    let a = c.head-first.result in
    let b = c.head-second.result in
    let least = c.min-least.result in
    let some : least < 2 ^ 64 - 1 = omega (arith, c.min-least.type_inv, c.if-least.false) in
    let most_a : least ≤ a = omega (arith, c.min-least.ensures) in
    let most_b : least ≤ b = omega (arith, c.min-least.ensures) in
    let which : (least ≡ a) ⊎ (least ≡ b) = ⊎_elim
    (λ (l : a < b). inl (omega (arith, c.min-least.ensures, l)))
    (λ (l : b ≤ a). inr (omega (arith, c.min-least.ensures, l)))
    (cases_lt a b) in
    let one_goes : (now.one < c.args.one.len) ⊎ IsTrue c.args.one.ends = elim c.if-now-one.branch [
      | then-now-one w ↦ inl w.if-now-one.true
      | else-now-one w ↦ inr (sym w.value-is ∙ c.if-one.true)
    ] in
    let other_goes : (now.other < c.args.other.len) ⊎ IsTrue c.args.other.ends = elim c.if-now-other.branch [
      | then-now-other w ↦ inl w.if-now-other.true
      | else-now-other w ↦ inr (sym w.value-is ∙ c.if-other.true)
    ] in
    record {
      one = passed_within c.args.one.len now.one c.passed.result a least i.one some c.head-first.ensures.none c.passed.ensures.past c.passed.ensures.same;
      other = passed_within c.args.other.len now.other c.passed-in-loop-now.result b least i.other some c.head-second.ensures.none
          c.passed-in-loop-now.ensures.past c.passed-in-loop-now.ensures.same;
      more = omega (arith, i.more, w.count.0);
      room = omega (arith, w.count.1, c.loop-now-test.true, c.loop-now.auto.out);
      rest = (w.rest.0 ∙ i.rest.0, λ k past. w.rest.1 k past ∙ i.rest.1 k (omega (arith, past, w.count.0)));
      joins = λ old xs ys p q from one other one_rising other_rising one_ends other_ends was.
          let before = i.joins old xs ys p q from one other one_rising other_rising one_ends other_ends was in
          let first = head_of_block xs c.args.one.numbers.now p c.args.one.len now.one a (IsTrue c.args.one.ends) one one_ends one_goes
          c.head-first.ensures.is c.head-first.ensures.none in
          let second = head_of_block ys c.args.other.numbers.now q c.args.other.len now.other b (IsTrue c.args.other.ends) other other_ends other_goes
          c.head-second.ensures.is c.head-second.ensures.none in
          let here = pair_from xs (p + now.one) ys (q + now.other) in
          let written = w.joins old here from before
          (λ l. pair_least xs ys (p + now.one) (q + now.other) a b one_rising other_rising first second now.low least most_a most_b which some l) in
          let one_moved = head_passed xs p now.one c.passed.result a least c.write-count.result.1 first some w.low c.passed.ensures.past c.passed.ensures.same in
          let other_moved = head_passed ys q now.other c.passed-in-loop-now.result b least c.write-count.result.1 second some w.low
          c.passed-in-loop-now.ensures.past c.passed-in-loop-now.ensures.same in
          joining_passed old here (pair_from xs (p + c.passed.result) ys (q + c.passed-in-loop-now.result)) from c.write-count.result.0 c.write-count.result.1
          c.write-count.new.out written
          (pair_keeps xs ys (p + now.one) (p + c.passed.result) (q + now.other) (q + c.passed-in-loop-now.result) c.write-count.result.1
          one_moved.0 one_moved.1 other_moved.0 other_moved.1);
    }
