use Rattle.program_files.proofs.lemmas.ProgramLemmas.{did_query}
use Rattle.program_files.proofs.blocks.program.query_file.Goals as goal

pub returns : goal.returns
returns g c = did_query _ _ _ _ _ _ _ _ c.in_ok-block.ensures c.in_ok-questions.ensures
    (rw (c.as_slice.ensures.value, c.as_slice-2.ensures.value) at c.in_ok-query.ensures.answers)
