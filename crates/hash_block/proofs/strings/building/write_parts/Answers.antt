-- Each section is written where the block has it.
use Rattle.std.proofs.Common.{◌≡◌, ◌+◌, length, ap, ◌∙◌, arith}
use Rattle.std.specs.Int.{div_ceil}
use Rattle.bitm_tables.specs.Tables.{Lists}
use Rattle.hash_block.specs.StringsBlock.{hash_len}
use Rattle.hash_block.proofs.StringsBlockLemmas.{stands}
use Rattle.hash_block.proofs.strings.building.write_parts.Goals as goal

pub returns-clause-stands : goal.returns-clause-stands
returns-clause-stands c = λ done.
    let hash = c.args.hash.now in
    let words = ap length (c.words.ensures.words ∙ ap (λ (l : Lists). l.words) c.tables.ensures) in
    let taken : c.hash_len-taken.result ≡ hash_len (length hash.lists.words) (length hash.sizes) =
    c.hash_len-taken.ensures.len
    ∙ ap (λ w. hash_len w (length c.sizes.result.now)) words
    ∙ ap (λ s. hash_len (length hash.lists.words) s) (ap length c.sizes.ensures.sizes) in
    let hash_len_is : length c.write_hash.new.block ≡ hash_len (length hash.lists.words) (length hash.sizes) =
    omega (arith, c.write_hash.auto.block, c.split_at_mut-to_hash.ensures.front_len, taken) in
    let count : length c.write_placed.new.starts ≡ length c.args.ends.now + 1 =
    omega (arith, c.write_placed.ensures.count, c.split_at_mut-starts.ensures.front_len) in
    let tight : length c.write_placed.new.to ≡ div_ceil (length c.args.bytes.now) 8 =
    omega (arith, c.write_placed.ensures.len, c.split_at_mut-to.ensures.front_len, c.div_ceil.ensures) in
    stands hash c.args.bytes.now c.args.ends.now c.split_at_mut-head.result.0.now c.write_hash.new.block c.split_at_mut-to_hash.result.1.now
    c.write_placed.new.starts c.split_at_mut-starts.result.1.now c.write_placed.new.to c.split_at_mut-to.result.1.now
    c.split_at_mut-head.ensures.front_len (
      hash_len_is,
      omega (arith, hash_len_is, taken, c.split_at_mut-to_hash.ensures.back_len, c.split_at_mut-room.ensures.front_len, c.aligned.ensures),
      (
        count,
        omega (arith, count, c.split_at_mut-starts.ensures.back_len, c.split_at_mut-room-2.ensures.front_len, c.aligned-2.ensures),
        (
          tight,
          omega (arith, tight, taken, c.split_at_mut-to.ensures.back_len, c.split_at_mut-room-2.ensures.back_len, c.split_at_mut-room.ensures.back_len, c.split_at_mut-head.ensures.back_len, c.aligned.ensures, c.aligned-2.ensures, c.div_ceil.ensures, c.requires.holds.room),
          tt,
        ),
      ),
    )
    (record { hash_is = c.write_hash.ensures; count = count; tight = tight; stored = c.write_placed.ensures.stored done })
