use Rattle.std.proofs.Common.{map}
use Rattle.std.proofs.lemmas.List.{map-append}
use Rattle.program_files.proofs.lemmas.FindingLemmas.{wrote-more}
use Rattle.program_files.proofs.strings.finding.write_numbers.Goals as goal

pub loop-line-preserved : goal.loop-line-preserved
loop-line-preserved g c =
    let contents = g.W.Write.contents in
    rw (map-append)
    (wrote-more c.args.form c.args.strings.now (map (λ x. x.now) c.loop-line.yielded) c.in-Some.line.now (contents c.args.out.now) (contents c.loop-line.out)
    (contents c.write_number.new.out) c.loop-line.found _ c.loop-line.invariant c.in_ok-found.ensures)
