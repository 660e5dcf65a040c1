use Rattle.std.proofs.Common.{◌≡◌, ℕ, ◌+◌, ◌*◌, ◌<◌, ◌≤◌, slice_index}
use Rattle.std.specs.Int.{bit_at}
use Rattle.digits.specs.Digits.{digit_from}
use Rattle.digits.proofs.building.bits_of_digits.Given as goal

-- the bits of the digits so far, and 0 from there on
abbrev pub invariant-loop-at : goal.invariant-loop-at
invariant-loop-at l =
    record {
      digits : (y : ℕ) → y < l.at → bit_at l.low y + 2 * bit_at l.high y ≡ digit_from l.position (slice_index l.numbers (l.from + y));
      low : (y : ℕ) → l.at ≤ y → y < 64 → bit_at l.low y ≡ 0;
      high : (y : ℕ) → l.at ≤ y → y < 64 → bit_at l.high y ≡ 0;
    }
