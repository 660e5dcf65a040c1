-- Each entry is written from the one before, and then its lines.
use Rattle.std.proofs.Common.{◌≡◌, ℕ, ◌+◌, ◌*◌, ◌/◌, List, length, min, ap, ◌∙◌, arith}
use Rattle.digits.specs.Digits.{digits_of}
use Rattle.digits.specs.Tables.{counts_between}
use Rattle.digits.proofs.lemmas.DigitLemmas.{length-digits_of}
use Rattle.digits.proofs.lemmas.CountedLemmas.{counted_more}
use Rattle.digits.proofs.building.write_counts.Goals as goal

pub loop-entry-preserved : goal.loop-entry-preserved
loop-entry-preserved c =
    let old = c.args.lines.now in
    let n = length old / 8 in
    let xs = digits_of old in
    let e = c.loop-entry.entry in
    let i = c.loop-entry.invariant in
    let end : c.min.result ≡ min n (256 * e + 256) = omega (arith, c.min.ensures, i.lines_len) in
    record {
      lines_len = c.count_lines-counts.ensures.len ∙ i.lines_len;
      table_len = c.write_entry.ensures.len ∙ i.table_len;
      digits = c.count_lines-counts.ensures.digits ∙ i.digits;
      counted = counted_more xs c.loop-entry.lines c.loop-entry.table c.count_lines-counts.new.lines c.write_entry.new.table n e
          c.loop-entry.counts c.count_lines-counts.result (length-digits_of old) (omega (arith, c.requires.short))
          (omega (arith, c.div_ceil-entry-end.ensures, c.loop-entry-test.true))
          i.counted c.write_entry.ensures.kept c.write_entry.ensures.numbers c.count_lines-counts.ensures.kept
          (λ k from to. c.count_lines-counts.ensures.counts k from (omega (arith, end, to))
          ∙ ap (λ (zs : List ℕ). counts_between zs (224 * (256 * e)) (224 * k + 128)) i.digits)
          (c.count_lines-counts.ensures.all ∙ ap (λ (m : ℕ). counts_between (digits_of c.loop-entry.lines) (224 * (256 * e)) (224 * m)) end
          ∙ ap (λ (zs : List ℕ). counts_between zs (224 * (256 * e)) (224 * min n (256 * e + 256))) i.digits);
    }
