-- The item moves from level to level, and its digits come one by one.
use Rattle.std.proofs.Common.{arith}
use Rattle.digit_levels.proofs.lemmas.QueryLemmas.{followed-first, followed-fits, followed-last, followed-more}
use Rattle.digit_levels.proofs.levels.DigitLevels.digits_from_on.Goals as goal

pub loop-depth-init : goal.loop-depth-init
loop-depth-init c =
    record {
      followed = followed-first c.args.self.now c.args.i c.requires;
      reads = record { lines = omega arith; numbers = omega arith };
    }

pub overflow_mul-found : goal.overflow_mul-found
overflow_mul-found c =
    omega (
      arith,
      followed-fits c.args.self.now c.args.i c.loop-depth.depth c.loop-depth.at c.loop-depth.found c.in_ok-digit.digit
          (omega (arith, c.loop-depth-test.true, c.height-depth-end.ensures.most)) c.loop-depth.invariant.followed c.in_ok-digit.ensures.digit,
    )

pub overflow_add-found : goal.overflow_add-found
overflow_add-found c =
    omega (
      arith,
      followed-fits c.args.self.now c.args.i c.loop-depth.depth c.loop-depth.at c.loop-depth.found c.in_ok-digit.digit
          (omega (arith, c.loop-depth-test.true, c.height-depth-end.ensures.most)) c.loop-depth.invariant.followed c.in_ok-digit.ensures.digit,
    )

pub loop-depth-preserved : goal.loop-depth-preserved
loop-depth-preserved c =
    let i = c.loop-depth.invariant in
    let step = c.in_ok-digit.ensures in
    record {
      followed = followed-more c.args.self.now c.args.i c.loop-depth.depth c.loop-depth.at c.loop-depth.found c.in_ok-digit.next c.in_ok-digit.digit
          (omega (arith, c.loop-depth-test.true, c.height-depth-end.ensures.height)) c.requires i.followed step.digit step.inside step.answer;
      reads = record { lines = omega (arith, i.reads.lines, step.reads.lines); numbers = omega (arith, i.reads.numbers, step.reads.numbers) };
    }

pub returns-clause-answer : goal.returns-clause-answer
returns-clause-answer c =
    followed-last c.args.self.now c.args.i c.loop-depth.depth c.loop-depth.at c.loop-depth.found
    (omega (arith, c.loop-depth-test.false, c.loop-depth.auto.depth-end, c.height-depth-end.ensures.height)) c.loop-depth.invariant.followed
