use Rattle.std.proofs.Common.{◌≡◌, ◌+◌, ◌≤◌, length}
use Rattle.std.specs.Str.Lines.{lines}
use Rattle.program_base.specs.Order.{fall_from, fall_line}
use Rattle.program_base.proofs.text.order.first_fall.Given as goal

-- the lines that are left decide, and there were no more of them than bytes before these
abbrev pub invariant-loop-line : goal.invariant-loop-line
invariant-loop-line l =
    (fall_line l.strict l.text ≡ fall_from l.strict l.before l.at (lines l.rest)) × (l.at + length l.rest ≤ length l.text)

abbrev pub decreases-loop-line : goal.decreases-loop-line
decreases-loop-line l = length l.rest
