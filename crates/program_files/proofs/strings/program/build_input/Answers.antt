use Rattle.program_files.proofs.lemmas.StringsProgramLemmas.{did_build}
use Rattle.program_files.proofs.strings.program.build_input.Goals as goal

pub returns : goal.returns
returns g c = did_build _ _ _ _ _ c.in_ok-text.ensures (rw c.as_slice.ensures.value at c.in_ok-build.ensures.written)
