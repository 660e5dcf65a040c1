use Rattle.digit_levels.specs.Reads.{DigitReadsExactly}
use Rattle.digit_levels.proofs.lemmas.QueryLemmas.{IsFollowed}
use Rattle.digit_levels.proofs.levels.DigitLevels.digits_from_on.Given as goal

-- the item has come to this level with its digits so far, and a line and a number were read for each
abbrev pub invariant-loop-depth : goal.invariant-loop-depth
invariant-loop-depth l =
    record {
      followed : IsFollowed l.self l.i l.depth l.at l.found;
      reads : DigitReadsExactly l.fn.probe.reads l.probe.reads l.depth;
    }
