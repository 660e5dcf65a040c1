use Rattle.std.proofs.Common.{◌≡◌, ◌+◌, ◌*◌, ◌≤◌, min}
use Rattle.digits.specs.Digits.{digits_of, digits_before}
use Rattle.digits.proofs.selecting.position_in_line.Given as goal

-- what is left of the rank after the parts so far
abbrev pub invariant-loop-part : goal.invariant-loop-part
invariant-loop-part g l =
    let digits = digits_of (g.S.DigitSource.lists l.source).lines in
    record {
      most : l.left ≤ l.rank;
      left : digits_before l.digit digits (224 * l.line + min (64 * l.part) 224) + l.left ≡ digits_before l.digit digits (224 * l.line) + l.rank;
    }
