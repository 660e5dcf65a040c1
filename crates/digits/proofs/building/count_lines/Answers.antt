-- Each line gets the counts before its middle, and those of all its digits are added to them.
use Rattle.std.proofs.Common.{◌≡◌, ℕ, ◌+◌, ◌*◌, ◌<◌, ◌≤◌, get_or, set, refl, sym, ap, ◌∙◌, arith, ⊎_elim}
use Rattle.std.proofs.lemmas.Bool.{cases_lt}
use Rattle.std.proofs.lemmas.List.{length-set, get_or-set_same, get_or-set_other}
use Rattle.digits.specs.Digits.{digits_of}
use Rattle.digits.specs.Tables.{counts_between}
use Rattle.digits.proofs.lemmas.DigitLemmas.{digits_kept, length-digits_of}
use Rattle.digits.proofs.lemmas.TableLemmas.{counts_between-none, counts_between-fits, counts_on}
use Rattle.digits.proofs.building.count_lines.Goals as goal
use Rattle.digits.proofs.building.count_lines.Goals.{After-counts_in_line-middle}

pub loop-line-init : goal.loop-line-init
loop-line-init c =
    record {
      len = refl;
      digits = refl;
      before = sym (counts_between-none (digits_of c.args.lines.now) (224 * c.args.first));
      counts = λ k from before. absurd (omega arith);
      kept = λ i before. refl;
    }

to_middle : (c : After-counts_in_line-middle) → c.loop-line.before + c.counts_in_line-middle.result.0
    ≡ counts_between (digits_of c.args.lines.now) (224 * c.args.first) (224 * c.loop-line.line + 128)
to_middle c =
    let i = c.loop-line.invariant in
    let k = c.loop-line.line in
    counts_on (digits_of c.args.lines.now) (digits_of c.loop-line.lines) c.args.first k (224 * k + 128) _ _ i.digits
    (omega (arith, c.loop-line.auto.line)) (omega arith)
    (omega (arith, length-digits_of c.args.lines.now, c.requires.inside, c.loop-line-test.true)) i.before c.counts_in_line-middle.ensures.middle

to_end : (c : After-counts_in_line-middle) → c.loop-line.before + c.counts_in_line-middle.result.1
    ≡ counts_between (digits_of c.args.lines.now) (224 * c.args.first) (224 * (c.loop-line.line + 1))
to_end c =
    let i = c.loop-line.invariant in
    let k = c.loop-line.line in
    counts_on (digits_of c.args.lines.now) (digits_of c.loop-line.lines) c.args.first k (224 * (k + 1)) _ _ i.digits
    (omega (arith, c.loop-line.auto.line)) (omega arith)
    (omega (arith, length-digits_of c.args.lines.now, c.requires.inside, c.loop-line-test.true)) i.before c.counts_in_line-middle.ensures.all

pub overflow_add-lines : goal.overflow_add-lines
overflow_add-lines c =
    let xs = digits_of c.args.lines.now in
    let k = c.loop-line.line in
    let few = counts_between-fits xs (224 * c.args.first) (224 * k + 128) (omega (arith, c.loop-line.auto.line))
    (omega (arith, c.requires.near, c.loop-line-test.true))
    (omega (arith, length-digits_of c.args.lines.now, c.requires.inside, c.loop-line-test.true)) in
    omega (arith, to_middle c, few)

pub overflow_add-before : goal.overflow_add-before
overflow_add-before c =
    let xs = digits_of c.args.lines.now in
    let k = c.loop-line.line in
    let few = counts_between-fits xs (224 * c.args.first) (224 * (k + 1)) (omega (arith, c.loop-line.auto.line))
    (omega (arith, c.requires.near, c.loop-line-test.true))
    (omega (arith, length-digits_of c.args.lines.now, c.requires.inside, c.loop-line-test.true)) in
    omega (arith, to_end c, few)

pub loop-line-preserved : goal.loop-line-preserved
loop-line-preserved c =
    let words = c.loop-line.lines in
    let k = c.loop-line.line in
    let v = c.loop-line.before + c.counts_in_line-middle.result.0 in
    let xs = digits_of c.args.lines.now in
    let i = c.loop-line.invariant in
    record {
      len = length-set words (8 * k) v ∙ i.len;
      digits = digits_kept words k v ∙ i.digits;
      before = to_end c;
      counts = λ j from before.
          ⊎_elim
          (λ (earlier : j < k). get_or-set_other words (8 * k) (8 * j) v 0 (λ e. omega arith) ∙ i.counts j from earlier)
          (λ (now : k ≤ j).
          let is : j ≡ k = omega arith in
          let here : get_or (set words (8 * k) v) (8 * k) 0 ≡ v =
          get_or-set_same words (8 * k) v 0 (omega (arith, i.len, c.requires.inside, c.loop-line-test.true)) in
          ap (λ (n : ℕ). get_or (set words (8 * k) v) (8 * n) 0) is ∙ here ∙ to_middle c
          ∙ sym (ap (λ (n : ℕ). counts_between xs (224 * c.args.first) (224 * n + 128)) is))
          (cases_lt j k);
      kept = λ j before. get_or-set_other words (8 * k) j v 0 (λ e. omega (arith, c.loop-line.auto.line)) ∙ i.kept j before;
    }
