use Rattle.std.proofs.Common.{◌≡◌, Some, map, rules}
use Rattle.std.specs.Prelude.{string_bytes}
use Rattle.program_files.proofs.lemmas.StringsProgramLemmas.{as_asked}
use Rattle.program_files.specs.StringsCommand.{command_in}
use Rattle.program_files.proofs.strings.program.run.Goals as goal

pub returns-clause-did : goal.returns-clause-did
returns-clause-did g c =
    let asked : command_in (map string_bytes c.args.args.now) ≡ Some (c.in-Some.command, c.in-Some.path.now) = search rules in
    as_asked c.perform.result (g.R.Sources.known c.args.rt.now) _ _ _ _ _ asked c.perform.ensures
