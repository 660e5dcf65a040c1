use Rattle.std.proofs.Common.{drop, length, arith}
use Rattle.std.proofs.lemmas.List.{take_at}
use Rattle.bit_lists.specs.Bits.{bits_of}
use Rattle.program_files.proofs.blocks.bits.block_of_bits.Goals as goal

pub returns-in-Ok-clause-block : goal.returns-in-Ok-clause-block
returns-in-Ok-clause-block c =
    let block = c.build.new.block in
    let whole = take_at block (drop (length block) c.in_ok-block.block.items) c.in_ok-block.block.len (omega (arith, c.build.auto.block, c.as_mut_slice.ensures.len)) in
    let made = rw c.as_slice.ensures.value at c.in-Ok.ensures.block in
    rw whole
    record { bits_are = bits_of c.in_ok-words.words.items; len = c.in-Some.end; ones = c.in_ok-words.ensures.ones; end = c.in-Some.ensures; block_of = made }
