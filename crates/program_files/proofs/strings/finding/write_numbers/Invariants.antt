use Rattle.std.proofs.Common.{map}
use Rattle.program_files.specs.Finding.{WroteNumbers}
use Rattle.program_files.proofs.strings.finding.write_numbers.Given as goal

abbrev pub invariant-loop-line : goal.invariant-loop-line
invariant-loop-line g l = WroteNumbers l.form l.strings (map (λ x. x.now) l.yielded) (g.W.Write.contents l.fn.out) (g.W.Write.contents l.out) l.found
