-- Each section is written where the block has it.
use Rattle.std.proofs.Common.{ℕ, length, ap, sym, ◌∙◌, arith}
use Rattle.bitm_selection.specs.Hints.{hints_len}
use Rattle.elias_fano.specs.Sequence.{largest}
use Rattle.elias_fano_view.specs.declared.sizes.Sizes.{Sizes}
use Rattle.sequence_block.proofs.BlockLemmas.{hints_of_words, stands}
use Rattle.sequence_block.proofs.building.write_parts.Goals as goal

pub write_sections-requires-clause-room : goal.write_sections-requires-clause-room
write_sections-requires-clause-room c =
    let sizes = c.requires.sizes in
    record {
      short = c.requires.holds.short;
      low_len = omega (arith, c.split_at_mut-low.ensures.front_len, ap (λ (s : Sizes). s.low) sizes);
      words_len = omega (arith, c.split_at_mut-words.ensures.front_len, ap (λ (s : Sizes). s.words) sizes);
      upper_len = omega (arith, c.split_at_mut-upper.ensures.front_len, ap (λ (s : Sizes). s.upper) sizes);
      lower_len = omega (arith, c.split_at_mut-lower.ensures.front_len, ap (λ (s : Sizes). s.lower) sizes);
    }

pub split_at_mut-hints-requires : goal.split_at_mut-hints-requires
split_at_mut-hints-requires c =
    let n = length c.args.items.now in
    let sizes = c.requires.sizes in
    omega (
      arith,
      c.hints_len.ensures,
      ap (λ (s : Sizes). hints_len n s.words) sizes,
      hints_of_words n (largest c.args.items.now),
      ap (λ (s : Sizes). s.words) sizes,
      ap (λ (s : Sizes). s.upper) sizes,
      ap (λ (s : Sizes). s.lower) sizes,
      ap (λ (s : Sizes). s.low) sizes,
      c.split_at_mut-room-4.ensures.back_len,
      c.split_at_mut-room-3.ensures.back_len,
      c.split_at_mut-room-2.ensures.back_len,
      c.split_at_mut-room.ensures.back_len,
      c.split_at_mut-head.ensures.back_len,
      c.aligned.ensures,
      c.aligned-2.ensures,
      c.aligned-3.ensures,
      c.aligned-4.ensures,
      c.requires.holds.room,
    )

pub returns : goal.returns
returns c =
    let n = length c.args.items.now in
    let sizes = c.requires.sizes in
    let words = ap (λ (s : Sizes). s.words) sizes in
    let upper = ap (λ (s : Sizes). s.upper) sizes in
    let lower = ap (λ (s : Sizes). s.lower) sizes in
    let low = ap (λ (s : Sizes). s.low) sizes in
    let hints = ap (λ (w : ℕ). hints_len n w) words in
    let room = c.write_sections.ensures.parts.room in
    let counted = ap (λ (w : ℕ). hints_len n w) room.words_len ∙ sym (hints_of_words n (largest c.args.items.now)) in
    let hinted = c.write_sections.ensures.hints.room in
    stands c.args.items.now c.split_at_mut-head.result.0.now c.write_sections.new.words c.split_at_mut-words.result.1.now
    c.write_sections.new.upper c.split_at_mut-upper.result.1.now c.write_sections.new.lower c.split_at_mut-lower.result.1.now
    c.write_sections.new.low c.split_at_mut-low.result.1.now c.write_sections.new.hints c.split_at_mut-hints.result.1.now
    c.split_at_mut-head.ensures.front_len (
      room.words_len,
      omega (arith, room.words_len, words, c.split_at_mut-words.ensures.back_len, c.split_at_mut-room.ensures.front_len, c.aligned.ensures),
      (
        room.upper_len,
        omega (arith, room.upper_len, upper, c.split_at_mut-upper.ensures.back_len, c.split_at_mut-room-2.ensures.front_len, c.aligned-2.ensures),
        (
          room.lower_len,
          omega (arith, room.lower_len, lower, c.split_at_mut-lower.ensures.back_len, c.split_at_mut-room-3.ensures.front_len, c.aligned-3.ensures),
          (
            room.low_len,
            omega (arith, room.low_len, low, c.split_at_mut-low.ensures.back_len, c.split_at_mut-room-4.ensures.front_len, c.aligned-4.ensures),
            (
              omega (arith, hinted, counted),
              omega (
                arith,
                hinted,
                counted,
                words,
                upper,
                lower,
                low,
                c.split_at_mut-hints.ensures.back_len,
                c.split_at_mut-room-4.ensures.back_len,
                c.split_at_mut-room-3.ensures.back_len,
                c.split_at_mut-room-2.ensures.back_len,
                c.split_at_mut-room.ensures.back_len,
                c.split_at_mut-head.ensures.back_len,
                c.split_at_mut-hints.ensures.front_len,
                c.aligned.ensures,
                c.aligned-2.ensures,
                c.aligned-3.ensures,
                c.aligned-4.ensures,
                c.requires.holds.room,
              ),
              tt,
            ),
          ),
        ),
      ),
    )
    (c.write_sections.ensures.parts) (c.write_sections.ensures.hints)
