-- One more string is placed, or the strings do not have numbers of their own.
use Rattle.std.proofs.Common.{◌≡◌, ℕ, ◌<◌, ◌≤◌, length, slice_index, Some, refl, sym, ◌∙◌, subst, arith, rules}
use Rattle.hash_block.specs.Given.{AreStringsPlaced}
use Rattle.hash_block.specs.StringsParts.{given_number}
use Rattle.hash_block.proofs.GivenLemmas.{apart_placed, none_placed, not_apart, placed_more, total_none}
use Rattle.hash_block.proofs.PlaceLemmas.{is_none, total_placed}
use Rattle.hash_block.proofs.strings.placing.place.Goals as goal

pub loop-i-init : goal.loop-i-init
loop-i-init c = record {
  placed = none_placed (given_number c.args.hash.now c.args.bytes.now c.args.ends.now) (length c.args.ends.now) c.args.order.now c.requires.clear;
  total = total_none c.args.ends.now c.args.order.now (length c.args.ends.now) c.requires.clear;
  count = refl;
}

pub returns-in-None-clause-apart : goal.returns-in-None-clause-apart
returns-in-None-clause-apart c = (
  search rules,
  λ apart. absurd (is_none _ (sym c.number_of.ensures.number ∙ c.in-None.is) (apart.some c.loop-i.i c.loop-i-test.true)),
)

pub returns-then-order-v-ne0-clause-apart : goal.returns-then-order-v-ne0-clause-apart
returns-then-order-v-ne0-clause-apart c =
    let n = length c.args.ends.now in
    let number = given_number c.args.hash.now c.args.bytes.now c.args.ends.now in
    let is : number c.loop-i.i ≡ Some c.in-Some.v = sym c.number_of.ensures.number ∙ c.in-Some.is in (
      search rules,
      λ apart. absurd (not_apart number n c.loop-i.i c.loop-i.order c.loop-i.invariant.placed n c.in-Some.v c.loop-i-test.true apart is
          (omega (arith, c.in-Some.ensures.below, c.requires.keys)) (λ free. omega (arith, c.if-order-v-ne0.true, free))),
    )

pub loop-i-preserved : goal.loop-i-preserved
loop-i-preserved c =
    let ends = c.args.ends.now in
    let number = given_number c.args.hash.now c.args.bytes.now ends in
    let is : number c.loop-i.i ≡ Some c.in-Some.v = sym c.number_of.ensures.number ∙ c.in-Some.is in
    let below : c.in-Some.v < length ends = omega (arith, c.in-Some.ensures.below, c.requires.keys) in
    let long : length ends ≤ length c.loop-i.order = omega (arith, c.loop-i.invariant.count, c.requires.count) in
    let free : slice_index c.loop-i.order c.in-Some.v ≡ 0 = omega (arith, c.if-order-v-ne0.false) in
    record {
      placed = placed_more number (length ends) c.loop-i.i c.loop-i.order c.loop-i.invariant.placed c.in-Some.v long is below free;
      total =
          total_placed c.args.bytes.now ends c.loop-i.order c.in-Some.v c.loop-i.i c.requires.given c.loop-i-test.true free below
          long c.loop-i.invariant.total;
      count = search rules;
    }

pub returns-clause-apart : goal.returns-clause-apart
returns-clause-apart c =
    let n = length c.args.ends.now in
    let number = given_number c.args.hash.now c.args.bytes.now c.args.ends.now in
    let all : c.loop-i.i ≡ n = omega (arith, c.loop-i-test.false, c.loop-i.auto.i-end) in (
      (λ _. apart_placed number n n c.loop-i.order
          (subst (λ (k : ℕ). AreStringsPlaced number n k c.loop-i.order) all c.loop-i.invariant.placed)),
      (λ _. refl),
    )
