-- Each test halves what is left, and says on which side the last line is if the tables are right.
use Rattle.std.proofs.Common.{◌≡◌, ℕ, ◌+◌, ◌-◌, ◌*◌, ◌/◌, ◌<◌, ◌≤◌, ◌⊎◌, get_or, min, refl, ap, sym, subst, ◌∙◌, arith, inl, inr}
use Rattle.bit_lists.proofs.lemmas.DigitLemmas.{digit_count_most}
use Rattle.digits.specs.Digits.{digits_of, digits_before}
use Rattle.digits.specs.Tables.{DigitLists, HasDigitTables}
use Rattle.digits.specs.declared.source.counts.DigitReads.{DigitReads}
use Rattle.digits.proofs.lemmas.DigitLemmas.{length-digits_of}
use Rattle.digits.proofs.lemmas.HalvingLemmas.{among_all, among_half, last_of_one, tests_left}
use Rattle.digits.proofs.lemmas.TableLemmas.{between_few}
use Rattle.digits.proofs.selecting.last_line.Goals as goal
use Rattle.digits.proofs.selecting.last_line.Goals.{then-rank_from-rank, else-rank_from-rank}

pub loop-left-init : goal.loop-left-init
loop-left-init g c =
    let lists = g.S.DigitSource.lists c.args.source.now in
    let d = c.args.digit in
    let xs = digits_of lists.lines in
    let first = 256 * c.args.entry in
    let end = min (first + 256) (lists.len / 224 + 1) in
    let left = c.min-left.result in
    let is : left ≡ end - first = omega (arith, c.min-left.ensures, c.digits_len.ensures, c.requires.entry) in
    let some : first < end = omega (arith, c.requires.entry) in
    record {
      some = omega (arith, is, some);
      from = omega arith;
      bound = omega (arith, is, some);
      among = λ t few. among_all (λ k. digits_before d xs (224 * k)) first end c.args.rank left some is
          (omega (arith, few, c.requires.before, t.entries c.args.entry d c.requires.digit (omega (arith, c.requires.entry, c.requires.sizes.table_len))));
      lines = omega (arith, digit_count_most 8 (left - 1) (omega (arith, is)));
      lines_kept = omega arith;
      numbers = refl {A = ℕ};
      same = refl {A = DigitLists};
    }

pub loop-left-preserved : goal.loop-left-preserved
loop-left-preserved g c =
    let i = c.loop-left.invariant in
    let e = c.open.ensures in
    let lists = g.S.DigitSource.lists c.args.source.now in
    let d = c.args.digit in
    let xs = digits_of lists.lines in
    let first = 256 * c.args.entry in
    let end = min (first + 256) (lists.len / 224 + 1) in
    let low = c.loop-left.low in
    let left = c.loop-left.left in
    let at = low + left / 2 in
    let count : ℕ → ℕ = λ k. digits_before d xs (224 * k) in
    let same = e.same ∙ i.same in
    let inside : at < end = omega (arith, i.bound, c.loop-left-test.true) in
    let entry : c.args.entry ≡ at / 256 = omega (arith, i.from, inside) in
    let here : 224 * at + 0 ≡ 224 * at = omega arith in
    let seen : HasDigitTables lists → c.rank_from.result ≡ count at = λ t.
    c.rank_from.ensures (subst HasDigitTables (sym same) t)
    (c.requires.before ∙ ap (λ (n : ℕ). get_or lists.table (4 * n + d) 0) entry ∙ sym (ap (λ (l : DigitLists). get_or l.table (4 * (at / 256) + d) 0) same))
    ∙ ap (λ (l : DigitLists). digits_before d (digits_of l.lines) (224 * at + 0)) same
    ∙ ap (digits_before d xs) here in
    let rise : (j k : ℕ) → j ≤ k → k < end → count j ≤ count k = λ j k order within.
    (between_few d xs (224 * j) (224 * k) (omega (arith, order)) (omega (arith, within, length-digits_of lists.lines, c.requires.sizes.lines_len))).0 in
    let side : ((c.rank_from.result ≤ c.args.rank) × (c.if-rank_from-rank.low ≡ low + left / 2)) ⊎ ((c.args.rank < c.rank_from.result) × (c.if-rank_from-rank.low ≡ low)) =
    elim c.if-rank_from-rank.branch [
      | then-rank_from-rank w ↦ inl (w.if-rank_from-rank.true, w.low-is)
      | else-rank_from-rank w ↦ inr (w.if-rank_from-rank.false, w.low-is)
    ] in
    let bound : (first ≤ c.if-rank_from-rank.low) × (c.if-rank_from-rank.low + (left - left / 2) ≤ end) =
    elim c.if-rank_from-rank.branch [
      | then-rank_from-rank w ↦ (omega (arith, w.low-is, i.from), omega (arith, w.low-is, i.bound))
      | else-rank_from-rank w ↦ (omega (arith, w.low-is, i.from), omega (arith, w.low-is, i.bound))
    ] in
    record {
      some = omega (arith, c.loop-left-test.true);
      from = bound.0;
      bound = bound.1;
      among = λ t few. among_half count first end c.args.rank low left c.if-rank_from-rank.low c.rank_from.result (i.among t few) c.loop-left-test.true (seen t) side rise;
      lines = omega (arith, i.lines, ap (λ (r : DigitReads). r.lines) e.counted, tests_left left c.loop-left-test.true);
      lines_kept = omega (arith, i.lines_kept, ap (λ (r : DigitReads). r.lines) e.counted);
      numbers = ap (λ (r : DigitReads). r.numbers) e.counted ∙ i.numbers;
      same = same;
    }

pub returns-clause-last : goal.returns-clause-last
returns-clause-last g c = λ t few.
    let lists = g.S.DigitSource.lists c.args.source.now in
    let first = 256 * c.args.entry in
    last_of_one (λ k. digits_before c.args.digit (digits_of lists.lines) (224 * k)) first (min (first + 256) (lists.len / 224 + 1)) c.args.rank
    c.loop-left.low c.loop-left.left (c.loop-left.invariant.among t few) c.loop-left-test.false
