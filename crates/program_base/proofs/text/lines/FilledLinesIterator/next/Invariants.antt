use Rattle.std.proofs.Common.{◌≡◌, length}
use Rattle.program_base.specs.Text.{without_empty}
use Rattle.program_base.proofs.text.lines.FilledLinesIterator.next.Given as goal

-- the lines that are left are those at the call, since only empty ones were passed over
abbrev pub invariant-loop-line : goal.invariant-loop-line
invariant-loop-line l = without_empty l.self-inside.lines ≡ without_empty l.initial.self-inside.lines

abbrev pub decreases-loop-line : goal.decreases-loop-line
decreases-loop-line l = length l.self-inside.lines
