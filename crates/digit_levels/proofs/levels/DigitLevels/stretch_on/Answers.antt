-- Both positions move from level to level by the number's digits.
use Rattle.std.proofs.Common.{arith}
use Rattle.digit_levels.proofs.lemmas.QueryLemmas.{way-first, way-last, way-more}
use Rattle.digit_levels.proofs.levels.DigitLevels.stretch_on.Goals as goal

pub loop-depth-init : goal.loop-depth-init
loop-depth-init c =
    record {
      way = way-first c.args.self.now c.args.number c.args.end c.requires;
      reads = record { lines = omega arith; numbers = omega arith };
    }

pub loop-depth-preserved : goal.loop-depth-preserved
loop-depth-preserved c =
    let i = c.loop-depth.invariant in
    let one = c.in_ok-next.ensures in
    let two = c.in_ok-after.ensures in
    record {
      way = way-more c.args.self.now c.args.number c.args.end c.loop-depth.depth c.loop-depth.first c.loop-depth.last c.in_ok-next.next c.in_ok-after.after
          c.digit_of-digit.result i.way c.digit_of-digit.ensures.digit one.inside two.inside one.answer two.answer;
      reads =
          record {
            lines = omega (arith, i.reads.lines, one.reads.lines, two.reads.lines);
            numbers = omega (arith, i.reads.numbers, one.reads.numbers, two.reads.numbers);
          };
    }

pub returns-clause-answer : goal.returns-clause-answer
returns-clause-answer c =
    way-last c.args.self.now c.args.number c.args.end c.loop-depth.depth c.loop-depth.first c.loop-depth.last
    (omega (arith, c.loop-depth-test.false, c.loop-depth.auto.depth-end, c.height-depth-end.ensures.height)) c.loop-depth.invariant.way
