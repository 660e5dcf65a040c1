use Rattle.std.proofs.Common.{◌≡◌, ℕ, ◌+◌, List, length, Option, None, Some}
use denote.Ref.{Bor}
use Rattle.program_base.specs.Text.{split_left, without_empty}
use Rattle.program_base.proofs.session.lines.CommandLinesIterator.next.Given as goal

-- more than the bytes of what is left of a text
abbrev pub bytes_left : Option (Bor (List ℕ)) → ℕ
bytes_left None = 0
bytes_left (Some rest) = length rest.now + 1

-- the lines that are left are those at the call, since only empty ones were passed over
abbrev pub invariant-loop-self : goal.invariant-loop-self
invariant-loop-self l = without_empty (split_left 10 l.self-inside.rest) ≡ without_empty (split_left 10 l.initial.self-inside.rest)

abbrev pub decreases-loop-self : goal.decreases-loop-self
decreases-loop-self l = bytes_left l.self-inside.rest
