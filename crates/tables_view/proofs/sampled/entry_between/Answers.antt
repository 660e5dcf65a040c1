-- Two entries are asked, and as many are read as the range's length has digits.
use Rattle.std.proofs.Common.{◌-◌, ap, inl, inr, arith}
use Rattle.std.proofs.lemmas.Bool.{cases_lt}
use Rattle.bit_lists.proofs.lemmas.DigitLemmas.{digit_count_most}
use Rattle.bitm_tables.specs.declared.source.counts.ReadCounts.{ReadCounts}
use Rattle.tables_view.proofs.sampled.entry_between.Goals as goal

pub returns-clause-reads : goal.returns-clause-reads
returns-clause-reads g c =
    let n = c.args.bounds.end - c.args.bounds.low - 1 in
    let r = c.last_in_range.ensures in
    let digits = digit_count_most 21 n (omega (arith, c.requires.within, c.requires.some)) in
    elim (cases_lt 0 c.args.bounds.low) [
      | inl later ↦
          let few = r.reads_later later in
          record {
            upper = omega (arith, few.upper, c.begun_by.ensures.reads.upper, c.is_behind.ensures.reads.upper);
            lower = omega (arith, few.lower, c.begun_by.ensures.reads.lower, c.is_behind.ensures.reads.lower, digits);
            words = omega (arith, few.words, c.begun_by.ensures.reads.words, c.is_behind.ensures.reads.words);
            upper_kept = omega (arith, few.upper_kept, c.begun_by.ensures.reads.upper_kept, c.is_behind.ensures.reads.upper_kept);
            lower_kept = omega (arith, few.lower_kept, c.begun_by.ensures.reads.lower_kept, c.is_behind.ensures.reads.lower_kept);
            words_kept = omega (arith, few.words_kept, c.begun_by.ensures.reads.words_kept, c.is_behind.ensures.reads.words_kept);
          }
      | inr first ↦
          let none = c.begun_by.ensures.reads_first (omega (arith, first)) in
          record {
            upper = omega (arith, r.reads.upper, c.begun_by.ensures.reads.upper, c.is_behind.ensures.reads.upper);
            lower = omega (arith, r.reads.lower, ap (λ (x : ReadCounts). x.lower) none, c.is_behind.ensures.reads.lower, digits);
            words = omega (arith, r.reads.words, c.begun_by.ensures.reads.words, c.is_behind.ensures.reads.words);
            upper_kept = omega (arith, r.reads.upper_kept, c.begun_by.ensures.reads.upper_kept, c.is_behind.ensures.reads.upper_kept);
            lower_kept = omega (arith, r.reads.lower_kept, c.begun_by.ensures.reads.lower_kept, c.is_behind.ensures.reads.lower_kept);
            words_kept = omega (arith, r.reads.words_kept, c.begun_by.ensures.reads.words_kept, c.is_behind.ensures.reads.words_kept);
          }
    ]

pub returns-clause-reads_near : goal.returns-clause-reads_near
returns-clause-reads_near g c = λ narrow.
    let n = c.args.bounds.end - c.args.bounds.low - 1 in
    let r = c.last_in_range.ensures in
    let digits = digit_count_most 3 n (omega (arith, narrow, c.requires.some)) in
    elim (cases_lt 0 c.args.bounds.low) [
      | inl later ↦
          let few = r.reads_later later in
          record {
            upper = omega (arith, few.upper, c.begun_by.ensures.reads.upper, c.is_behind.ensures.reads.upper);
            lower = omega (arith, few.lower, c.begun_by.ensures.reads.lower, c.is_behind.ensures.reads.lower, digits);
            words = omega (arith, few.words, c.begun_by.ensures.reads.words, c.is_behind.ensures.reads.words);
            upper_kept = omega (arith, few.upper_kept, c.begun_by.ensures.reads.upper_kept, c.is_behind.ensures.reads.upper_kept);
            lower_kept = omega (arith, few.lower_kept, c.begun_by.ensures.reads.lower_kept, c.is_behind.ensures.reads.lower_kept);
            words_kept = omega (arith, few.words_kept, c.begun_by.ensures.reads.words_kept, c.is_behind.ensures.reads.words_kept);
          }
      | inr first ↦
          let none = c.begun_by.ensures.reads_first (omega (arith, first)) in
          record {
            upper = omega (arith, r.reads.upper, c.begun_by.ensures.reads.upper, c.is_behind.ensures.reads.upper);
            lower = omega (arith, r.reads.lower, ap (λ (x : ReadCounts). x.lower) none, c.is_behind.ensures.reads.lower, digits);
            words = omega (arith, r.reads.words, c.begun_by.ensures.reads.words, c.is_behind.ensures.reads.words);
            upper_kept = omega (arith, r.reads.upper_kept, c.begun_by.ensures.reads.upper_kept, c.is_behind.ensures.reads.upper_kept);
            lower_kept = omega (arith, r.reads.lower_kept, c.begun_by.ensures.reads.lower_kept, c.is_behind.ensures.reads.lower_kept);
            words_kept = omega (arith, r.reads.words_kept, c.begun_by.ensures.reads.words_kept, c.is_behind.ensures.reads.words_kept);
          }
    ]
