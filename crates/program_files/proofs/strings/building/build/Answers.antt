use Rattle.program_files.proofs.strings.building.build.Goals as goal

pub returns-clause-written : goal.returns-clause-written
returns-clause-written g c =
    let lines = c.in_ok-lines.ensures in
    record {
      block = c.in_ok-block.block.items;
      block_of = rw (c.as_slice.ensures.value, c.as_slice-2.ensures.value, lines.bytes, lines.ends) at c.in_ok-block.ensures.block;
      written = rw c.as_slice-3.ensures.value at c.in_ok-write_words.ensures;
    }
