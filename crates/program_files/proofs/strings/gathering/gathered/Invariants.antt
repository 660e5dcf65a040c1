use Rattle.std.proofs.Common.{◌≡◌, map}
use Rattle.program_files.specs.StringsLines.{ends_of, joined_lines}
use Rattle.program_files.proofs.strings.gathering.gathered.Given as goal

abbrev pub invariant-loop-line : goal.invariant-loop-line
invariant-loop-line l =
    (l.bytes.items ≡ joined_lines (map (λ x. x.now) l.yielded)) × (l.ends.items ≡ ends_of (map (λ x. x.now) l.yielded))
