use Rattle.std.proofs.Common.{drop, length, arith}
use Rattle.std.proofs.lemmas.List.{take_at}
use Rattle.program_files.proofs.blocks.matrix.block_of_matrix.Goals as goal

pub returns-in-Ok-clause-block : goal.returns-in-Ok-clause-block
returns-in-Ok-clause-block c =
    let block = c.build.new.block in
    let whole = take_at block (drop (length block) c.resize-2.new.self.items) c.resize-2.new.self.len (omega (arith, c.build.auto.block, c.as_mut_slice-2.ensures.len)) in
    rw whole record { width = c.least_width-width.result; least = c.least_width-width.ensures; block_of = c.in-Ok.ensures.block }
