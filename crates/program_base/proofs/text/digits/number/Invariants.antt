use Rattle.std.proofs.Common.{◌≡◌, ◌<◌, ◌^◌, take}
use Rattle.std.specs.Str.Parse.{digits_value, AllDigits}
use Rattle.program_base.proofs.text.digits.number.Given as goal

abbrev pub invariant-loop-byte : goal.invariant-loop-byte
invariant-loop-byte l =
    (l.value ≡ digits_value l.radix (take l.byte-index l.digits)) × AllDigits l.radix (take l.byte-index l.digits) × (l.value < 2 ^ 64)
