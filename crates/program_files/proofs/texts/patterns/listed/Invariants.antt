use Rattle.std.proofs.Common.{◌≡◌}
use Rattle.program_files.proofs.texts.patterns.listed.Given as goal

abbrev pub invariant-loop-line : goal.invariant-loop-line
invariant-loop-line l = l.patterns.items ≡ l.yielded
