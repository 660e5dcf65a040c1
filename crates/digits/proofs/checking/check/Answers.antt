-- Each entry is compared with the one before, and then its lines.
use Rattle.std.proofs.Common.{◌≡◌, ℕ, ◌+◌, ◌*◌, ◌/◌, length, min, refl, sym, ap, ◌∙◌, arith}
use Rattle.std.specs.Prelude.{IsTrue}
use Rattle.digits.specs.Digits.{digits_of}
use Rattle.digits.specs.Tables.{counts_between}
use Rattle.digits.proofs.lemmas.DigitLemmas.{length-digits_of}
use Rattle.digits.proofs.lemmas.CountedLemmas.{counted_more, next_right}
use Rattle.digits.proofs.checking.check.Goals as goal

pub returns-then-not-is_entry : goal.returns-then-not-is_entry
returns-then-not-is_entry c = (
  λ wrong. let never : ⊥ = cc in absurd never,
  λ tables. sym c.if-not-is_entry.true
      ∙ (c.is_entry.ensures.1
      (λ d low. next_right (digits_of c.args.lines.now) c.args.lines.now c.args.table.now (length c.args.lines.now / 8) c.loop-entry.entry c.loop-entry.counts d
      (length-digits_of c.args.lines.now) (omega (arith, c.requires.short)) (omega (arith, c.div_ceil-entry-end.ensures, c.loop-entry-test.true)) low
      c.loop-entry.invariant
      (tables.entries c.loop-entry.entry d low (omega (arith, c.div_ceil-entry-end.ensures, c.loop-entry-test.true, c.requires.lines_len, c.requires.table_len))))),
)

pub loop-entry-preserved : goal.loop-entry-preserved
loop-entry-preserved c =
    let xs = digits_of c.args.lines.now in
    let n = length c.args.lines.now / 8 in
    let e = c.loop-entry.entry in
    let end : c.min.result ≡ min n (256 * e + 256) = c.min.ensures in
    let right : IsTrue c.is_entry.result = c.if-not-is_entry.false in
    counted_more xs c.args.lines.now c.args.table.now c.args.lines.now c.args.table.now n e c.loop-entry.counts c.in-Some.all
    (length-digits_of c.args.lines.now) (omega (arith, c.requires.short)) (omega (arith, c.div_ceil-entry-end.ensures, c.loop-entry-test.true))
    c.loop-entry.invariant (λ i before. refl) (c.is_entry.ensures.0 right) (λ i before. refl)
    (λ k from to. c.in-Some.ensures.counts k from (omega (arith, end, to)))
    (c.in-Some.ensures.all ∙ ap (λ (m : ℕ). counts_between xs (224 * (256 * e)) (224 * m)) end)
