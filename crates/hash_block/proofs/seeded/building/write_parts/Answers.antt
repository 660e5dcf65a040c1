-- Each section is written where the block has it.
use Rattle.std.proofs.Common.{length, ap, arith}
use Rattle.hash_block.proofs.SeededBlockLemmas.{stands}
use Rattle.hash_block.proofs.seeded.building.write_parts.Goals as goal

pub returns-clause-stands : goal.returns-clause-stands
returns-clause-stands c =
    let are = c.write_levels.ensures.parts in
    let to = ap length c.write_levels.ensures.words in
    let upper = are.sized.upper_len in
    let lower = are.sized.lower_len in
    let sizes = ap length are.sizes_are in
    let packed = c.pack.ensures.len in
    stands c.args.words.now c.args.seeds.now c.args.sizes.now c.split_at_mut-head.result.0.now c.write_levels.new.to c.split_at_mut-to.result.1.now
    c.write_levels.new.upper c.split_at_mut-upper.result.1.now c.write_levels.new.lower c.split_at_mut-lower.result.1.now
    c.pack.new.to c.split_at_mut-to_seeds.result.1.now c.write_levels.new.to_sizes c.split_at_mut-to_sizes.result.1.now
    c.split_at_mut-head.ensures.front_len c.write_levels.ensures.words (
      to,
      omega (arith, to, c.split_at_mut-to.ensures.back_len, c.split_at_mut-room.ensures.front_len, c.aligned.ensures),
      (
        upper,
        omega (arith, upper, c.split_at_mut-upper.ensures.back_len, c.split_at_mut-room-2.ensures.front_len, c.aligned-2.ensures, c.upper_len-uppers.ensures),
        (
          lower,
          omega (arith, lower, c.split_at_mut-lower.ensures.back_len, c.split_at_mut-room-3.ensures.front_len, c.aligned-3.ensures, c.lower_len-lowers.ensures),
          (
            omega (arith, packed, c.split_at_mut-to_seeds.ensures.front_len, c.div_ceil-packed.ensures),
            omega (arith, packed, c.split_at_mut-to_seeds.ensures.back_len, c.split_at_mut-to_seeds.ensures.front_len, c.split_at_mut-room-4.ensures.front_len, c.aligned-4.ensures, c.div_ceil-packed.ensures),
            (
              sizes,
              omega (arith, sizes, c.split_at_mut-to_sizes.ensures.back_len, c.split_at_mut-room-4.ensures.back_len, c.split_at_mut-room-3.ensures.back_len, c.split_at_mut-room-2.ensures.back_len, c.split_at_mut-room.ensures.back_len, c.split_at_mut-head.ensures.back_len, c.aligned.ensures, c.aligned-2.ensures, c.aligned-3.ensures, c.aligned-4.ensures, c.upper_len-uppers.ensures, c.lower_len-lowers.ensures, c.div_ceil-packed.ensures, c.requires.room),
              tt,
            ),
          ),
        ),
      ),
    )
    (record { levels = are; seeds_are = c.pack.ensures.seeds; padding = c.pack.ensures.padding })
