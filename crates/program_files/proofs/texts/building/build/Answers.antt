use Rattle.program_files.proofs.texts.building.build.Goals as goal

pub returns-clause-written : goal.returns-clause-written
returns-clause-written g c = record {
  block = c.in_ok-block.block.items;
  block_of = c.in_ok-block.ensures.block;
  written = rw c.as_slice.ensures.value at c.in_ok-write_words.ensures;
}
