-- Each entry begins where the one before it ends, and the last one ends with the part or with the words.
use Rattle.std.proofs.Common.{◌≡◌, ◌+◌, ◌*◌, ◌^◌, length, min, ◌∙◌, arith}
use Rattle.std.specs.Int.{div_ceil}
use Rattle.bit_lists.specs.Bits.{bits_of}
use Rattle.bit_lists.proofs.lemmas.CountLemmas.{few_ones, ones_before-at_most_all}
use Rattle.bitm_tables.proofs.lemmas.TableMakingLemmas.{part_ended, part_begun}
use Rattle.tables_view.proofs.filling.fill_part.Goals as goal

pub overflow_add-in_part : goal.overflow_add-in_part
overflow_add-in_part c =
    let most = ones_before-at_most_all (bits_of c.args.words.now) (2048 * (c.loop-at.at + 1)) in
    record { fits = omega (arith, c.loop-at.invariant.ones, c.make_entry-entry.ensures.ones, most, few_ones c.args.words.now, c.requires.short) }

pub returns-clause-ones : goal.returns-clause-ones
returns-clause-ones c =
    let ended : c.loop-at.at ≡ min (div_ceil (length c.args.words.now) 32) ((c.args.part + 1) * 2 ^ 21) =
    omega (arith, part_begun (length c.args.words.now) c.args.part c.requires.begun, c.min-end.ensures, c.requires.sized) in
    c.loop-at.invariant.ones ∙ part_ended c.args.words.now c.args.part c.loop-at.at ended
