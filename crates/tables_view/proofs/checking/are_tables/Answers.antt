-- Each part is made anew and compared; whole tables are those of the words.
use Rattle.std.proofs.Common.{◌≡◌, ◌+◌, ◌*◌, ◌^◌, length, min, sym, ◌∙◌, arith, rules}
use Rattle.std.specs.Int.{div_ceil}
use Rattle.bit_lists.proofs.lemmas.CountLemmas.{ones_before_none, few_ones, ones_before-at_most_all}
use Rattle.bit_lists.specs.Bits.{bits_of}
use Rattle.bitm_tables.proofs.lemmas.TableLemmas.{entries}
use Rattle.bitm_tables.proofs.lemmas.TableMakingLemmas.{all_entries_made}
use Rattle.tables_view.proofs.FilledLemmas.{tables_filled}
use Rattle.tables_view.proofs.checking.are_tables.Goals as goal

pub loop-part-init : goal.loop-part-init
loop-part-init c = record {
  upper = λ j h. absurd (omega (arith, h));
  lower = λ j h. absurd (omega (arith, h));
  ones = sym (ones_before_none (bits_of c.args.words.now));
}

pub returns-then-upper-part : goal.returns-then-upper-part
returns-then-upper-part c = (
  search rules,
  λ t. absurd (c.if-upper-part.true ((entries _ _ _ t).upper_is c.loop-part.part (omega (arith, c.loop-part-test.true)) ∙ sym c.loop-part.invariant.ones)),
)

pub overflow_add-ones : goal.overflow_add-ones
overflow_add-ones c =
    let b = bits_of c.args.words.now in
    let most = ones_before-at_most_all b ((c.loop-part.part + 1) * 2 ^ 32) in
    record { fits = omega (arith, c.loop-part.invariant.ones, c.in-Some.ensures.ones, most, few_ones c.args.words.now, c.requires.short) }

pub returns : goal.returns
returns c =
    let n = length c.args.words.now in
    let i = c.loop-part.invariant in
    let ended : c.loop-part.part ≡ div_ceil n (2 ^ 26) = omega (arith, c.loop-part.auto.part-end, c.loop-part-test.false, c.requires.upper_len) in
    let all : min (div_ceil n 32) (c.loop-part.part * 2 ^ 21) ≡ div_ceil n 32 = all_entries_made n c.loop-part.part ended in (
      λ _.
          tables_filled c.args.words.now c.args.upper.now c.args.lower.now c.requires
          (λ j h. i.upper j (omega (arith, h, c.loop-part-test.false))) (λ j h. i.lower j (omega (arith, h, all, c.requires.lower_len))),
      search rules,
    )
