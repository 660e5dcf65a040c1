use Rattle.std.proofs.Common.{map}
use Rattle.std.proofs.lemmas.List.{map-append}
use Rattle.program_base.proofs.lemmas.SessionLemmas.{wrote_answer}
use Rattle.program_base.proofs.session.program.run.Goals as goal

pub loop-line-preserved : goal.loop-line-preserved
loop-line-preserved g c =
    let contents = g.W.Write.contents in
    rw (map-append)
    (wrote_answer (map (λ x. x.now) c.loop-line.yielded) c.in-Some.line.now c.loop-line.session c.answer_line.new.session
    (contents c.args.out.now) (contents c.loop-line.out) (contents c.answer_line.new.out) c.loop-line.good _
    c.loop-line.invariant c.in_ok-good.ensures)
