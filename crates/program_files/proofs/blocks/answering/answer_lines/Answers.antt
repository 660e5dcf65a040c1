use Rattle.std.proofs.Common.{map}
use Rattle.std.proofs.lemmas.List.{map-append}
use Rattle.program_files.proofs.lemmas.ReplyLemmas.{wrote_more}
use Rattle.program_files.proofs.blocks.answering.answer_lines.Goals as goal

pub loop-line-preserved : goal.loop-line-preserved
loop-line-preserved g c =
    let contents = g.W.Write.contents in
    rw (map-append)
    (wrote_more c.args.form (g.Q.Queryable.replies c.args.view.now) (map (λ x. x.now) c.loop-line.yielded) c.in-Some.line.now (contents c.args.out.now) (contents c.loop-line.out)
    (contents c.answer_line.new.out) c.loop-line.good _ c.loop-line.invariant c.in_ok-good.ensures)
