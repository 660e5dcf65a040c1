-- The samples of 0 bits are written behind those of 1 bits, which stay.
use Rattle.std.proofs.Common.{◌≡◌, ℕ, true, false, Option, SomeIff, ◌+◌, ◌-◌, ◌*◌, ◌≤◌, List, ◌++◌, length, length-append, length-drop, take, drop, ap, subst, sym, ◌∙◌, arith}
use Rattle.std.proofs.lemmas.List.{length-take, length-take-le, take-append-le}
use Rattle.std.proofs.lemmas.Slice.{take-put_mid_below}
use borrow.Rule.Slice.PartMut.{put_mid}
use Rattle.bit_lists.specs.Bits.{bits_of}
use Rattle.bitm_strategies.specs.Density.{clamped_log}
use Rattle.bitm_tables.specs.Tables.{bits_in, HasSizes, HasTables, Lists}
use Rattle.bitm_view.specs.Block.{sample_room}
use Rattle.tables_view.specs.Samples.{AreSamples}
use Rattle.tables_view.specs.Sizes.{lists_of}
use Rattle.bitm_view.proofs.BlockLemmas.{held, part_written}
use Rattle.bitm_view.proofs.block.build_block.Goals as goal

pub returns : goal.returns
returns c =
    let to = c.copy_first.new.to in
    let sized : HasSizes (lists_of to c.args.upper.now c.args.lower.now) = record {
      short = omega (arith, c.requires.short, c.requires.words_len, c.copy_first.ensures.len);
      upper_len = omega (arith, c.requires.upper_len, c.copy_first.ensures.len);
      lower_len = omega (arith, c.requires.lower_len, c.copy_first.ensures.len);
    } in
    let tables = held c.build-ones.result _ _ _ c.build-ones.ensures.ones sized c.build-ones.ensures.tables in
    let lists = lists_of to c.build-ones.new.upper c.build-ones.new.lower in
    let over = subst (λ (o : Option Lists). SomeIff o (HasSizes lists) lists) c.unwrap-tables.ensures c.over.ensures in
    let b = bits_of to in
    let xs : List ℕ = c.sample-ones.new.samples ++ drop c.samples_room-room.result c.args.samples.now in
    let room1 = c.samples_room-room.ensures ∙ ap (λ (n : ℕ). sample_room n c.args.logs.0) c.copy_first.ensures.len in
    let room0 = c.samples_room-room0.ensures ∙ ap (λ (n : ℕ). sample_room n c.args.logs.1) c.copy_first.ensures.len in
    let fits : c.samples_room-room.result ≤ length c.args.samples.now = omega (arith, c.requires.samples_len, room1) in
    let a = c.div_ceil-first.result * 16 in
    let k = a + c.samples_room-room0.result - a in
    let zs = c.sample-zeros.new.samples in
    let of_room = length-take-le c.samples_room-room.result c.args.samples.now fits in
    let few : c.sample-ones.result ≤ c.samples_room-room.result = omega (arith, c.sample-ones.ensures.most, of_room) in
    let long : length c.sample-ones.new.samples ≡ c.samples_room-room.result = c.sample-ones.ensures.len ∙ of_room in
    let whole : length xs ≡ length c.args.samples.now =
    omega (arith, length-append c.sample-ones.new.samples (drop c.samples_room-room.result c.args.samples.now), length-drop c.samples_room-room.result c.args.samples.now, long, fits) in
    let begun : a ≤ length xs = omega (arith, whole, c.div_ceil-first.ensures, few, c.requires.samples_len, room1, room0) in
    let few0 : c.sample-zeros.result ≤ c.samples_room-room0.result = omega (arith, c.sample-zeros.ensures.most, length-take k (drop a xs)) in
    record {
      bits = c.copy_first.ensures.bits;
      tables = tables;
      few = omega (arith, few, c.samples_room-room.ensures);
      few0 = omega (arith, few0, c.samples_room-room0.ensures);
      of_ones = λ some.
          subst (λ (ys : List ℕ). AreSamples b true (clamped_log c.args.logs.0) ys c.sample-ones.new.starts)
          (sym (take-put_mid_below a k xs zs c.sample-ones.result (omega (arith, c.div_ceil-first.ensures)) begun
          ∙ take-append-le c.sample-ones.result c.sample-ones.new.samples (drop c.samples_room-room.result c.args.samples.now) (omega (arith, few, long))))
          (subst (λ (l : Lists). HasTables l → AreSamples (bits_in l) true (clamped_log c.args.logs.0) (take c.sample-ones.result c.sample-ones.new.samples) c.sample-ones.new.starts) over.1
          (c.sample-ones.ensures.made some) tables);
      of_zeros = λ some.
          subst (λ (ys : List ℕ). AreSamples b false (clamped_log c.args.logs.1) ys c.sample-zeros.new.starts)
          (sym (ap (λ (i : ℕ). take c.sample-zeros.result (drop i (put_mid a k xs zs))) (sym (ap (λ (i : ℕ). i * 16) c.div_ceil-first.ensures))
          ∙ part_written a k c.sample-zeros.result xs zs begun (omega (arith, c.sample-zeros.ensures.most, c.sample-zeros.ensures.len))))
          (subst (λ (l : Lists). HasTables l → AreSamples (bits_in l) false (clamped_log c.args.logs.1) (take c.sample-zeros.result c.sample-zeros.new.samples) c.sample-zeros.new.starts) over.1
          (c.sample-zeros.ensures.made some) tables);
    }
