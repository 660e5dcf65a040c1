use Rattle.program_files.proofs.lemmas.KindsProgramLemmas.{did_info}
use Rattle.program_files.proofs.kinds.program.info_file.Goals as goal

pub returns : goal.returns
returns g c = did_info _ _ _ _ _ _ c.in_ok-file.ensures (rw c.as_slice.ensures.value at c.in_ok-info.ensures.written)
