-- Each search goes on behind the position that was found, and finds the next one.
use Rattle.std.proofs.Common.{◌≢◌, ◌+◌, ◌∙◌, arith}
use Rattle.std.proofs.lemmas.List.{get_or-set_other, length-take}
use Rattle.bit_lists.proofs.lemmas.BitsLemmas.{length-bits_of}
use Rattle.bit_lists.specs.Bits.{bits_of}
use Rattle.bit_lists.specs.Count.{count_before, Picks}
use Rattle.bit_words.specs.First.{first_bits}
use Rattle.bit_words.proofs.lemmas.PositionLemmas.{placed_more, few_before, first_picked, next_counts, none_follows}
use Rattle.bit_words.proofs.slices.positions.positions_in.Goals as goal

pub returns-in_default-clause-number : goal.returns-in_default-clause-number
returns-in_default-clause-number c =
    let b = first_bits c.args.words.now c.args.len in
    omega (arith, none_follows b c.args.one c.loop-at.next c.in_default.ensures, c.loop-at.invariant.counted, c.loop-at-test.true, c.loop-at.auto.at-end, c.loop-at.auto.out)

pub overflow_add-next : goal.overflow_add-next
overflow_add-next c = record {
  fits = omega (arith, c.in-Some.ensures.inside, length-take c.args.len (bits_of c.args.words.now), length-bits_of c.args.words.now, c.requires.short);
}

pub loop-at-preserved : goal.loop-at-preserved
loop-at-preserved c =
    let b = first_bits c.args.words.now c.args.len in
    let v = c.args.one in
    let i = c.loop-at.invariant in
    let f = c.in-Some.ensures in
    let R = count_before b v c.args.from in
    record {
      counted = omega (arith, i.counted, next_counts b v c.loop-at.next c.in-Some.position f);
      positions =
          placed_more (λ j p. Picks b v (R + j) p) c.loop-at.out c.loop-at.at c.in-Some.position i.positions
          (omega (arith, c.loop-at-test.true, c.loop-at.auto.at-end, c.loop-at.auto.out))
          (first_picked b v c.loop-at.next c.in-Some.position (R + c.loop-at.at) f i.counted);
      unchanged = λ j h.
          let other : j ≢ c.loop-at.at = λ e. omega (arith, e, h) in
          get_or-set_other c.loop-at.out c.loop-at.at j c.in-Some.position 0 other ∙ i.unchanged j (omega (arith, h));
    }

pub returns-clause-number : goal.returns-clause-number
returns-clause-number c =
    let b = first_bits c.args.words.now c.args.len in
    let v = c.args.one in
    omega (
      arith,
      c.loop-at.invariant.counted,
      c.loop-at-test.false,
      c.loop-at.auto.at-end,
      c.loop-at.auto.out,
      few_before b v c.loop-at.next,
    )
