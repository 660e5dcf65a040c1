use Rattle.std.proofs.Common.{drop, length, arith}
use Rattle.std.proofs.lemmas.List.{take_at}
use Rattle.program_files.proofs.blocks.sequence.block_of_sequence.Goals as goal

pub returns-in-Ok-clause-block : goal.returns-in-Ok-clause-block
returns-in-Ok-clause-block c =
    let block = c.build.new.block in
    let whole = take_at block (drop (length block) c.in_ok-block.block.items) c.in_ok-block.block.len (omega (arith, c.build.auto.block, c.as_mut_slice.ensures.len)) in
    rw whole c.in-Ok.ensures.block
