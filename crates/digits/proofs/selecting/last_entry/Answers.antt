-- Each test halves what is left, and says on which side the last entry is if the tables are right.
use Rattle.std.proofs.Common.{◌≡◌, ℕ, ◌+◌, ◌-◌, ◌*◌, ◌/◌, ◌<◌, ◌≤◌, ◌⊎◌, get_or, refl, ap, ◌∙◌, arith, inl, inr}
use Rattle.bit_lists.specs.Bits.{digit_count}
use Rattle.digits.specs.Digits.{digits_of, digits_before}
use Rattle.digits.specs.Tables.{DigitLists, HasDigitTables}
use Rattle.digits.specs.declared.source.counts.DigitReads.{DigitReads}
use Rattle.digits.proofs.lemmas.DigitLemmas.{digits_before_none, length-digits_of}
use Rattle.digits.proofs.lemmas.HalvingLemmas.{among_all, among_half, last_of_one, tests_left}
use Rattle.digits.proofs.lemmas.TableLemmas.{between_few}
use Rattle.digits.proofs.selecting.last_entry.Goals as goal
use Rattle.digits.proofs.selecting.last_entry.Goals.{then-number-rank, else-number-rank}

pub loop-left-init : goal.loop-left-init
loop-left-init g c =
    let lists = g.S.DigitSource.lists c.args.source.now in
    let d = c.args.digit in
    let xs = digits_of lists.lines in
    let last = lists.len / 224 / 256 in
    let left = c.digits_len.result / 224 / 256 + 1 in
    let all : left - 1 ≡ last = omega (arith, c.digits_len.ensures) in
    record {
      some = omega arith;
      bound = omega (arith, c.digits_len.ensures);
      among = λ _. among_all (λ e. digits_before d xs (224 * (256 * e))) 0 (last + 1) c.args.rank left (omega arith) (omega (arith, c.digits_len.ensures))
          (omega (arith, digits_before_none d xs));
      numbers = omega (arith, ap digit_count all);
      numbers_kept = omega arith;
      lines = refl {A = ℕ};
      same = refl {A = DigitLists};
    }

pub loop-left-preserved : goal.loop-left-preserved
loop-left-preserved g c =
    let i = c.loop-left.invariant in
    let e = c.number.ensures in
    let lists = g.S.DigitSource.lists c.args.source.now in
    let d = c.args.digit in
    let xs = digits_of lists.lines in
    let last = lists.len / 224 / 256 in
    let low = c.loop-left.low in
    let left = c.loop-left.left in
    let at = low + left / 2 in
    let count : ℕ → ℕ = λ k. digits_before d xs (224 * (256 * k)) in
    let inside : at ≤ last = omega (arith, i.bound, c.loop-left-test.true) in
    let seen : HasDigitTables lists → c.number.result ≡ count at = λ t.
    e.item ∙ ap (λ (l : DigitLists). get_or l.table (4 * at + d) 0) i.same
    ∙ t.entries at d c.requires.digit (omega (arith, inside, c.requires.sizes.table_len)) in
    let rise : (j k : ℕ) → j ≤ k → k < last + 1 → count j ≤ count k = λ j k order within.
    (between_few d xs (224 * (256 * j)) (224 * (256 * k)) (omega (arith, order))
    (omega (arith, within, length-digits_of lists.lines, c.requires.sizes.lines_len))).0 in
    let side : ((c.number.result ≤ c.args.rank) × (c.if-number-rank.low ≡ low + left / 2)) ⊎ ((c.args.rank < c.number.result) × (c.if-number-rank.low ≡ low)) =
    elim c.if-number-rank.branch [
      | then-number-rank w ↦ inl (w.if-number-rank.true, w.low-is)
      | else-number-rank w ↦ inr (w.if-number-rank.false, w.low-is)
    ] in
    let bound : c.if-number-rank.low + (left - left / 2) ≤ last + 1 =
    elim c.if-number-rank.branch [
      | then-number-rank w ↦ omega (arith, w.low-is, i.bound)
      | else-number-rank w ↦ omega (arith, w.low-is, i.bound)
    ] in
    record {
      some = omega (arith, c.loop-left-test.true);
      bound = bound;
      among = λ t. among_half count 0 (last + 1) c.args.rank low left c.if-number-rank.low c.number.result (i.among t) c.loop-left-test.true (seen t) side rise;
      numbers = omega (arith, i.numbers, ap (λ (r : DigitReads). r.numbers) e.counted, tests_left left c.loop-left-test.true);
      numbers_kept = omega (arith, i.numbers_kept, ap (λ (r : DigitReads). r.numbers) e.counted);
      lines = ap (λ (r : DigitReads). r.lines) e.counted ∙ i.lines;
      same = e.same ∙ i.same;
    }

pub returns-clause-last : goal.returns-clause-last
returns-clause-last g c = λ t.
    let lists = g.S.DigitSource.lists c.args.source.now in
    last_of_one (λ e. digits_before c.args.digit (digits_of lists.lines) (224 * (256 * e))) 0 (lists.len / 224 / 256 + 1) c.args.rank c.loop-left.low
    c.loop-left.left (c.loop-left.invariant.among t) c.loop-left-test.false
