-- The entries of the part are made anew, and the first one that differs is wrong.
use Rattle.std.proofs.Common.{◌≡◌, ◌+◌, ◌*◌, ◌^◌, length, min, sym, ◌∙◌, arith}
use Rattle.std.specs.Int.{div_ceil}
use Rattle.bit_lists.specs.Bits.{bits_of}
use Rattle.bit_lists.proofs.lemmas.CountLemmas.{few_ones, ones_before-at_most_all}
use Rattle.bitm_tables.proofs.lemmas.TableLemmas.{entries}
use Rattle.bitm_tables.proofs.lemmas.TableMakingLemmas.{part_ended, part_begun}
use Rattle.tables_view.proofs.checking.ones_of_part.Goals as goal

pub returns-then-lower-at-clause-wrong : goal.returns-then-lower-at-clause-wrong
returns-then-lower-at-clause-wrong c = λ _ t.
    c.if-lower-at.true
    ((entries _ _ _ t).lower_is c.loop-at.at (omega (arith, c.min-end.ensures, c.loop-at-test.true)) ∙ sym c.make_entry-entry.ensures.entry)

pub overflow_add-in_part : goal.overflow_add-in_part
overflow_add-in_part c =
    let most = ones_before-at_most_all (bits_of c.args.words.now) (2048 * (c.loop-at.at + 1)) in
    record { fits = omega (arith, c.loop-at.invariant.ones, c.make_entry-entry.ensures.ones, most, few_ones c.args.words.now, c.requires.sized.short) }

pub returns-clause-ones : goal.returns-clause-ones
returns-clause-ones c =
    let n = length c.args.words.now in
    let ended : c.loop-at.at ≡ min (div_ceil n 32) ((c.args.part + 1) * 2 ^ 21) =
    omega (arith, part_begun n c.args.part c.requires.begun, c.min-end.ensures, c.requires.sized.lower_len) in
    c.loop-at.invariant.ones ∙ part_ended c.args.words.now c.args.part c.loop-at.at ended
