use Rattle.std.proofs.Common.{map}
use Rattle.program_files.specs.Query.{WroteReplies}
use Rattle.program_files.proofs.blocks.answering.answer_lines.Given as goal

abbrev pub invariant-loop-line : goal.invariant-loop-line
invariant-loop-line g l =
    WroteReplies l.form (g.Q.Queryable.replies l.view) (map (λ x. x.now) l.yielded) (g.W.Write.contents l.fn.out) (g.W.Write.contents l.out) l.good
