-- Each section is written where the block has it.
use Rattle.std.proofs.Common.{arith}
use Rattle.bit_lists.specs.Bits.{bits_of}
use Rattle.bitm_view.proofs.BitsBlockLemmas.{stands}
use Rattle.bitm_view.proofs.bits.building.write_parts.Goals as goal

pub returns : goal.returns
returns c =
    let to = c.write_bits.ensures.words_len in
    let sized = c.write_bits.ensures.sized in
    stands (bits_of c.args.words.now) c.args.len c.split_at_mut-head.result.0.now c.write_bits.new.to c.split_at_mut-to.result.1.now
    c.write_bits.new.upper c.split_at_mut-upper.result.1.now c.write_bits.new.lower c.split_at_mut-lower.result.1.now
    c.split_at_mut-head.ensures.front_len (
      to,
      omega (arith, to, c.split_at_mut-to.ensures.back_len, c.split_at_mut-room.ensures.front_len, c.aligned.ensures, c.div_ceil-needed.ensures),
      (
        omega (arith, to, sized.upper_len),
        omega (arith, to, sized.upper_len, c.split_at_mut-upper.ensures.back_len, c.split_at_mut-room-2.ensures.front_len, c.aligned-2.ensures, c.upper_len-uppers.ensures, c.div_ceil-needed.ensures),
        (
          omega (arith, to, sized.lower_len),
          omega (arith, to, sized.lower_len, c.split_at_mut-lower.ensures.back_len, c.split_at_mut-room-2.ensures.back_len, c.split_at_mut-room.ensures.back_len, c.split_at_mut-head.ensures.back_len, c.aligned.ensures, c.aligned-2.ensures, c.upper_len-uppers.ensures, c.lower_len.ensures, c.div_ceil-needed.ensures, c.requires.room),
          tt,
        ),
      ),
    )
    c.write_bits.ensures
