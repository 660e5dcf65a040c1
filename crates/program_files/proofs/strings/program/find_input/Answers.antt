use Rattle.program_files.proofs.lemmas.StringsProgramLemmas.{did_find}
use Rattle.program_files.proofs.strings.program.find_input.Goals as goal

pub returns : goal.returns
returns g c = did_find _ _ _ _ _ _ _ _ c.in_ok-file.ensures c.in_ok-text.ensures
    (rw (c.as_slice.ensures.value, c.as_slice-2.ensures.value) at c.in_ok-find.ensures.written)
