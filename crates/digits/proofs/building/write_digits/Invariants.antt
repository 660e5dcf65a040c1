use Rattle.std.proofs.Common.{◌≡◌, ℕ, ◌+◌, ◌*◌, ◌/◌, ◌%◌, ◌<◌, length, slice_index}
use Rattle.digits.specs.Digits.{digit_of, digit_from}
use Rattle.digits.proofs.building.write_digits.Given as goal

-- the digits of the parts so far are written
abbrev pub invariant-loop-part : goal.invariant-loop-part
invariant-loop-part l =
    record {
      len : length l.lines ≡ length l.fn.lines;
      digits : (i : ℕ) → 4 * (i / 224) + i % 224 / 64 < l.part → digit_of l.lines i ≡ digit_from l.position (slice_index l.numbers i);
    }
