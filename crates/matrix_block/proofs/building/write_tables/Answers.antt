-- There are enough words for all levels.
use Rattle.std.proofs.Common.{length, ap, arith}
use Rattle.bitm_tables.specs.Tables.{bits_in, Lists}
use Rattle.bit_lists.proofs.BitLaws.{bits_are_counted}
use Rattle.matrix_block.proofs.building.write_tables.Goals as goal

pub write_counts-requires-clause-room : goal.write_counts-requires-clause-room
write_counts-requires-clause-room c =
    omega (arith, c.requires.room, bits_are_counted c.args.words.now, ap (λ (s : Lists). length (bits_in s)) c.probe-source.ensures.lists)
