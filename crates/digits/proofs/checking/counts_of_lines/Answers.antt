-- A line is compared with the counts before its middle.
use Rattle.std.proofs.Common.{◌≡◌, ℕ, ◌+◌, ◌*◌, ◌^◌, ◌<◌, ◌≤◌, get_or, refl, sym, ap, ◌∙◌, arith, ⊎_elim}
use Rattle.std.proofs.lemmas.Bool.{cases_lt}
use Rattle.digits.specs.Digits.{digits_of}
use Rattle.digits.specs.Tables.{counts_between}
use Rattle.digits.proofs.lemmas.DigitLemmas.{length-digits_of}
use Rattle.digits.proofs.lemmas.TableLemmas.{counts_between-none, counts_between-fits, counts_on}
use Rattle.digits.proofs.checking.counts_of_lines.Goals as goal
use Rattle.digits.proofs.checking.counts_of_lines.Goals.{After-counts_in_line-middle}

pub loop-line-init : goal.loop-line-init
loop-line-init c =
    record {
      before = sym (counts_between-none (digits_of c.args.lines.now) (224 * c.args.first));
      counts = λ k from before. absurd (omega arith);
    }

to_middle : (c : After-counts_in_line-middle) → c.loop-line.before + c.counts_in_line-middle.result.0
    ≡ counts_between (digits_of c.args.lines.now) (224 * c.args.first) (224 * c.loop-line.line + 128)
to_middle c =
    let xs = digits_of c.args.lines.now in
    let k = c.loop-line.line in
    counts_on xs xs c.args.first k (224 * k + 128) _ _ refl (omega (arith, c.loop-line.auto.line)) (omega arith)
    (omega (arith, length-digits_of c.args.lines.now, c.requires.inside, c.loop-line-test.true)) c.loop-line.invariant.before
    c.counts_in_line-middle.ensures.middle

to_end : (c : After-counts_in_line-middle) → c.loop-line.before + c.counts_in_line-middle.result.1
    ≡ counts_between (digits_of c.args.lines.now) (224 * c.args.first) (224 * (c.loop-line.line + 1))
to_end c =
    let xs = digits_of c.args.lines.now in
    let k = c.loop-line.line in
    counts_on xs xs c.args.first k (224 * (k + 1)) _ _ refl (omega (arith, c.loop-line.auto.line)) (omega arith)
    (omega (arith, length-digits_of c.args.lines.now, c.requires.inside, c.loop-line-test.true)) c.loop-line.invariant.before
    c.counts_in_line-middle.ensures.all

fits : (c : After-counts_in_line-middle) (to : ℕ) → 224 * c.loop-line.line ≤ to → to ≤ 224 * (c.loop-line.line + 1)
    → counts_between (digits_of c.args.lines.now) (224 * c.args.first) to < 2 ^ 64
fits c to from most =
    counts_between-fits (digits_of c.args.lines.now) (224 * c.args.first) to (omega (arith, c.loop-line.auto.line))
    (omega (arith, c.requires.near, c.loop-line-test.true)) (omega (arith, length-digits_of c.args.lines.now, c.requires.inside, c.loop-line-test.true))

pub overflow_add-before : goal.overflow_add-before
overflow_add-before c =
    let d = (goal.at.overflow_add-before c).After-counts_in_line-middle in
    omega (arith, to_middle d, fits d (224 * c.loop-line.line + 128) (omega arith) (omega arith))

pub overflow_add-before-in-loop-line : goal.overflow_add-before-in-loop-line
overflow_add-before-in-loop-line c =
    let d = (goal.at.overflow_add-before-in-loop-line c).After-counts_in_line-middle in
    omega (arith, to_end d, fits d (224 * (c.loop-line.line + 1)) (omega arith) (omega arith))

pub returns-then-lines-line-clause-counts : goal.returns-then-lines-line-clause-counts
returns-then-lines-line-clause-counts c =
    let d = (goal.at.returns-then-lines-line-clause-counts c).After-counts_in_line-middle in
    (c.loop-line.line, omega (arith, c.loop-line.auto.line), omega (arith, c.loop-line-test.true), λ e. omega (arith, e, to_middle d, c.if-lines-line.true))

pub loop-line-preserved : goal.loop-line-preserved
loop-line-preserved c =
    let d = (goal.at.loop-line-preserved c).After-counts_in_line-middle in
    let k = c.loop-line.line in
    let words = c.args.lines.now in
    let xs = digits_of words in
    record {
      before = to_end d;
      counts = λ j from before.
          ⊎_elim (λ (earlier : j < k). c.loop-line.invariant.counts j from earlier)
          (λ (now : k ≤ j).
          let is : j ≡ k = omega arith in
          let here : get_or words (8 * k) 0 ≡ c.loop-line.before + c.counts_in_line-middle.result.0 = omega (arith, c.if-lines-line.false) in
          ap (λ (n : ℕ). get_or words (8 * n) 0) is ∙ here ∙ to_middle d
          ∙ sym (ap (λ (n : ℕ). counts_between xs (224 * c.args.first) (224 * n + 128)) is))
          (cases_lt j k);
    }
