-- Each step goes one level up, and the last position is on the first level.
use Rattle.std.proofs.Common.{◌≡◌, ◌+◌, ◌-◌, ◌*◌, ◌/◌, ◌≤◌, subst, arith}
use Rattle.std.proofs.Math.Nat.{mul-le-mul_left}
use Rattle.bit_lists.specs.Bits.{digit_count}
use Rattle.digits.specs.Reads.{DigitReadsAtMost}
use Rattle.digit_levels.specs.Matrix.{height}
use Rattle.digit_levels.proofs.lemmas.ReadsLemmas.{reads-more, reads-none}
use Rattle.digit_levels.proofs.lemmas.SelectLemmas.{up-after, up-before, up-first, up-last}
use Rattle.digit_levels.proofs.levels.DigitLevels.first_position_on.Goals as goal

pub loop-up-init : goal.loop-up-init
loop-up-init c =
    record {
      inside = c.requires;
      picked = λ xs k levels p. up-first xs (height c.args.self.now) c.args.number k c.args.position p;
      reads = reads-none c.args.probe.now.reads _ _;
    }

pub loop-up-preserved : goal.loop-up-preserved
loop-up-preserved c =
    let h = height c.args.self.now in
    let up = c.loop-up.up in
    let i = c.loop-up.invariant in
    let back = c.in-Some.ensures in
    let each = digit_count (c.args.self.now.len / 224 / 256) + 2 in
    let is = c.height-height.ensures.height in
    record {
      inside = back.inside;
      picked = λ xs k levels p.
          up-after xs h c.args.number k c.in-Some.back (c.height-height.result - 1 - up) up (omega (arith, is))
          (back.answer xs k levels
          (up-before xs h c.args.number k c.loop-up.at (c.height-height.result - 1 - up) up (omega (arith, is, c.loop-up-test.true)) (omega (arith, is))
          (i.picked xs k levels p)));
      reads = reads-more _ _ _ (10 * up) (each * up) 10 each (10 * (up + 1)) (each * (up + 1)) i.reads back.reads (omega arith) (omega arith);
    }

pub returns-in_default-clause-answer : goal.returns-in_default-clause-answer
returns-in_default-clause-answer c = λ xs k levels p.
    let h = height c.args.self.now in
    let up = c.loop-up.up in
    let is = c.height-height.ensures.height in
    c.in_default.ensures.answer xs k levels
    (up-before xs h c.args.number k c.loop-up.at (c.height-height.result - 1 - up) up (omega (arith, is, c.loop-up-test.true)) (omega (arith, is))
    (c.loop-up.invariant.picked xs k levels p))

pub returns-in_default-clause-reads : goal.returns-in_default-clause-reads
returns-in_default-clause-reads c =
    let h = height c.args.self.now in
    let up = c.loop-up.up in
    let each = digit_count (c.args.self.now.len / 224 / 256) + 2 in
    let more : up + 1 ≤ h = omega (arith, c.height-height.ensures.height, c.loop-up-test.true) in
    reads-more _ _ _ (10 * up) (each * up) 10 each (10 * h) (each * h) c.loop-up.invariant.reads c.in_default.ensures.reads (omega (arith, more))
    (omega (arith, mul-le-mul_left each more))

pub returns-clause-answer : goal.returns-clause-answer
returns-clause-answer c = λ xs k levels p.
    up-last xs (height c.args.self.now) c.args.number k c.loop-up.at c.loop-up.up
    (omega (arith, c.loop-up-test.false, c.loop-up.auto.up-end, c.height-height.ensures.height)) (c.loop-up.invariant.picked xs k levels p)

pub returns-clause-reads : goal.returns-clause-reads
returns-clause-reads c =
    let all : c.loop-up.up ≡ height c.args.self.now = omega (arith, c.loop-up-test.false, c.loop-up.auto.up-end, c.height-height.ensures.height) in
    subst (λ n. DigitReadsAtMost c.args.probe.now.reads c.loop-up.probe.reads (10 * n) ((digit_count (c.args.self.now.len / 224 / 256) + 2) * n)) all
    c.loop-up.invariant.reads
