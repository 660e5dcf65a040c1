-- A number of more bits than all others is none of them, and one of no more bits goes back from the last level.
use Rattle.std.proofs.Common.{ℕ, ◌+◌, ◌*◌, ◌/◌, ◌^◌, ◌<◌, ◌≤◌, length, sym, subst, ◌∙◌, arith}
use Rattle.std.proofs.Math.Nat.{mul-le-mul_right}
use Rattle.std.proofs.lemmas.Bool.{true≢false}
use Rattle.bit_lists.specs.Bits.{digit_count}
use Rattle.digit_levels.specs.Matrix.{height}
use Rattle.digit_levels.proofs.lemmas.ReadsLemmas.{reads-more, reads-none}
use Rattle.matrix_levels.proofs.lemmas.WalkLemmas.{count_before-wide}
use Rattle.digit_levels.proofs.levels.DigitLevels.select_on.Goals as goal

pub returns-then-not-fits-clause-answer : goal.returns-then-not-fits-clause-answer
returns-then-not-fits-clause-answer c = λ xs levels.
    let m = c.args.self.now in
    let P : ℕ → Type 0 = λ w. c.args.number < 2 ^ w in
    let wide : c.args.number < 2 ^ m.width → ⊥ = λ narrow. true≢false (sym (c.fits.ensures.1 (subst P (sym c.width.ensures.width) narrow)) ∙ c.if-not-fits.true) in
    omega (arith, count_before-wide xs m.width c.args.number (length xs) levels.fit wide)

pub last_position_on-requires : goal.last_position_on-requires
last_position_on-requires c =
    let P : ℕ → Type 0 = λ w. c.args.number < 2 ^ w in subst P c.width.ensures.width (c.fits.ensures.0 c.if-not-fits.false)

pub returns-in-Some-clause-answer : goal.returns-in-Some-clause-answer
returns-in-Some-clause-answer c = λ xs levels. c.in-Some.ensures.answer xs c.args.k levels (c.in-Found.ensures.answer xs levels)

pub returns-in-None-clause-answer : goal.returns-in-None-clause-answer
returns-in-None-clause-answer c = λ xs levels. c.in-None.ensures.answer xs c.args.k levels (c.in-Found.ensures.answer xs levels)

pub returns-in-Some-clause-reads : goal.returns-in-Some-clause-reads
returns-in-Some-clause-reads c =
    let h = height c.args.self.now in
    let each = digit_count (c.args.self.now.len / 224 / 256) in
    reads-more _ _ _ (2 * h) (2 * h) (10 * h) ((each + 2) * h) (12 * h) ((each + 4) * h) c.in-Found.ensures.reads c.in-Some.ensures.reads
    (omega arith) (omega arith)

pub returns-in-None-clause-reads : goal.returns-in-None-clause-reads
returns-in-None-clause-reads c =
    let h = height c.args.self.now in
    let each = digit_count (c.args.self.now.len / 224 / 256) in
    reads-more _ _ _ (2 * h) (2 * h) (10 * h) ((each + 2) * h) (12 * h) ((each + 4) * h) c.in-Found.ensures.reads c.in-None.ensures.reads
    (omega arith) (omega arith)

pub returns-in_default-clause-reads : goal.returns-in_default-clause-reads
returns-in_default-clause-reads c =
    let h = height c.args.self.now in
    let each = digit_count (c.args.self.now.len / 224 / 256) in
    let few : 2 ≤ each + 4 = omega arith in
    reads-more _ _ _ (2 * h) (2 * h) 0 0 (12 * h) ((each + 4) * h) c.last_position_on.ensures.reads (reads-none _ 0 0)
    (omega arith) (omega (arith, mul-le-mul_right h few))
