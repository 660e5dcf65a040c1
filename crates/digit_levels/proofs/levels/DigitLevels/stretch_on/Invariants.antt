use Rattle.std.proofs.Common.{◌*◌}
use Rattle.digit_levels.specs.Reads.{DigitReadsExactly}
use Rattle.digit_levels.proofs.lemmas.QueryLemmas.{AreOnTheWay}
use Rattle.digit_levels.proofs.levels.DigitLevels.stretch_on.Given as goal

-- both positions have come to this level, and two lines and two numbers were read for each
abbrev pub invariant-loop-depth : goal.invariant-loop-depth
invariant-loop-depth l =
    record {
      way : AreOnTheWay l.self l.number l.end l.depth l.first l.last;
      reads : DigitReadsExactly l.fn.probe.reads l.probe.reads (2 * l.depth);
    }
