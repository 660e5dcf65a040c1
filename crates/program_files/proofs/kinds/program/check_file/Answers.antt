use Rattle.program_files.proofs.lemmas.KindsProgramLemmas.{did_check}
use Rattle.program_files.proofs.kinds.program.check_file.Goals as goal

pub returns : goal.returns
returns g c = did_check _ _ _ _ _ _ _ c.in_ok-file.ensures (rw c.as_slice.ensures.value at c.in_ok-write_check.ensures)
