use Rattle.std.proofs.Common.{ℕ, ◌+◌, ◌-◌, ◌*◌, ◌/◌, ◌<◌, List}
use Rattle.bit_lists.specs.Bits.{digit_count}
use Rattle.digits.specs.Reads.{DigitReadsAtMost}
use Rattle.digit_levels.specs.Levels.{quad_level}
use Rattle.digit_levels.specs.Matrix.{AreDigitLevelsOf, height}
use Rattle.matrix_levels.specs.Numbers.{PicksItem}
use Rattle.digit_levels.proofs.levels.DigitLevels.first_position_on.Given as goal

-- where the number stands so many levels above the last, and as many selections were made
abbrev pub invariant-loop-up : goal.invariant-loop-up
invariant-loop-up l =
    let h = height l.self in
    record {
      inside : l.at < l.self.len;
      picked : (xs : List ℕ) (k : ℕ) → AreDigitLevelsOf xs l.self → PicksItem (quad_level xs h h) l.number k l.position
          → PicksItem (quad_level xs h (h - l.up)) l.number k l.at;
      reads : DigitReadsAtMost l.fn.probe.reads l.probe.reads (10 * l.up) ((digit_count (l.self.len / 224 / 256) + 2) * l.up);
    }
