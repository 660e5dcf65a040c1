-- The parts follow one another: each has its upper entry, its lower entries and its ones.
use Rattle.std.proofs.Common.{◌≡◌, ◌+◌, ◌*◌, ◌^◌, length, min, sym, ◌∙◌, arith}
use Rattle.std.specs.Int.{div_ceil}
use Rattle.bit_lists.proofs.lemmas.BitsLemmas.{length-bits_of}
use Rattle.bit_lists.proofs.lemmas.CountLemmas.{ones_before_none, ones_before_past, few_ones, ones_before-at_most_all}
use Rattle.bit_lists.specs.Bits.{bits_of}
use Rattle.bitm_tables.proofs.lemmas.TableMakingLemmas.{all_parts, all_entries_made}
use Rattle.tables_view.proofs.FilledLemmas.{tables_filled}
use Rattle.tables_view.proofs.filling.fill.Goals as goal

pub loop-part-init : goal.loop-part-init
loop-part-init c = record {
  upper = λ j h. absurd (omega (arith, h));
  lower = λ j h. absurd (omega (arith, h));
  lower_len = c.requires.lower_len;
  ones = sym (ones_before_none (bits_of c.args.words.now));
}

pub overflow_add-ones : goal.overflow_add-ones
overflow_add-ones c =
    let b = bits_of c.args.words.now in
    let most = ones_before-at_most_all b ((c.loop-part.part + 1) * 2 ^ 32) in
    record { fits = omega (arith, c.loop-part.invariant.ones, c.fill_part-ones.ensures.ones, most, few_ones c.args.words.now, c.requires.short) }

pub returns-clause-tables : goal.returns-clause-tables
returns-clause-tables c =
    let n = length c.args.words.now in
    let i = c.loop-part.invariant in
    let up : length c.loop-part.upper ≡ div_ceil n (2 ^ 26) = omega (arith, c.loop-part.auto.upper, c.requires.upper_len) in
    let ended : c.loop-part.part ≡ div_ceil n (2 ^ 26) = omega (arith, c.loop-part.auto.part-end, c.loop-part-test.false, c.requires.upper_len) in
    let all : min (div_ceil n 32) (c.loop-part.part * 2 ^ 21) ≡ div_ceil n 32 = all_entries_made n c.loop-part.part ended in
    tables_filled c.args.words.now c.loop-part.upper c.loop-part.lower
    (record { short = c.requires.short; upper_len = up; lower_len = i.lower_len })
    (λ j h. i.upper j (omega (arith, h, up, ended))) (λ j h. i.lower j (omega (arith, h, all, i.lower_len)))

pub returns-clause-ones : goal.returns-clause-ones
returns-clause-ones c =
    let b = bits_of c.args.words.now in
    let n = length c.args.words.now in
    let ended : c.loop-part.part ≡ div_ceil n (2 ^ 26) = omega (arith, c.loop-part.auto.part-end, c.loop-part-test.false, c.requires.upper_len) in
    c.loop-part.invariant.ones
    ∙ ones_before_past b (c.loop-part.part * 2 ^ 32) (omega (arith, all_parts n c.loop-part.part ended, length-bits_of c.args.words.now))
