use Rattle.std.proofs.Common.{Bool, map}
use Rattle.std.specs.Prelude.{string_bytes}
use Rattle.program_base.proofs.Callers.{ended}
use Rattle.program_files.specs.StringsProgram.{DidAsAsked}
use Rattle.program_files.proofs.lemmas.StringsProgramLemmas.{asked_kept}
use Rattle.program_files.proofs.strings.program.start.Goals as goal

pub returns-clause-did : goal.returns-clause-did
returns-clause-did g c = λ small.
    let contents = g.W.Write.contents in
    let D : Bool → Type 0 = DidAsAsked (g.R.Sources.known c.args.rt.now) (map string_bytes c.args.args.now) (contents c.args.out.now)
    (contents c.run.new.out) in
    asked_kept _ _ _ _ _ _ (ended c.run.result c.end.result D c.run.ensures.did c.end.ensures.good c.end.ensures.bad small)
    (c.end.ensures.kept small)
