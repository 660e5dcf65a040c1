use Rattle.std.proofs.Common.{map}
use Rattle.program_base.specs.Session.{Wrote}
use Rattle.program_base.proofs.session.program.run.Given as goal

abbrev pub invariant-loop-line : goal.invariant-loop-line
invariant-loop-line g l = Wrote (map (λ x. x.now) l.yielded) l.session (g.W.Write.contents l.fn.out) (g.W.Write.contents l.out) l.good
