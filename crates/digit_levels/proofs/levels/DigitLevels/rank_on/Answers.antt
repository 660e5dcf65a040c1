-- A number of more bits than all others is none of them, and the equal ones stand side by side after the last level.
use Rattle.std.proofs.Common.{ℕ, ◌^◌, ◌<◌, ◌≤◌, sym, subst, ◌∙◌, arith}
use Rattle.std.proofs.lemmas.Bool.{true≢false}
use Rattle.matrix_levels.proofs.lemmas.WalkLemmas.{count_before-wide}
use Rattle.digit_levels.proofs.lemmas.QueryLemmas.{ranked}
use Rattle.digit_levels.proofs.levels.DigitLevels.rank_on.Goals as goal

pub returns-then-not-fits-clause-answer : goal.returns-then-not-fits-clause-answer
returns-then-not-fits-clause-answer c = λ xs levels.
    let m = c.args.self.now in
    let P : ℕ → Type 0 = λ w. c.args.number < 2 ^ w in
    let wide : c.args.number < 2 ^ m.width → ⊥ = λ narrow. true≢false (sym (c.fits.ensures.1 (subst P (sym c.width.ensures.width) narrow)) ∙ c.if-not-fits.true) in (
      omega (arith, c.if-i-len.false, c.len.ensures.len, levels.count),
      sym (count_before-wide xs m.width c.args.number c.args.i levels.fit wide),
    )

pub returns-then-count-i-clause-answer : goal.returns-then-count-i-clause-answer
returns-then-count-i-clause-answer c = λ xs levels.
    let P : ℕ → Type 0 = λ w. c.args.number < 2 ^ w in
    let narrow = subst P c.width.ensures.width (c.fits.ensures.0 c.if-not-fits.false) in
    let inside : c.args.i ≤ c.args.self.now.len = omega (arith, c.if-i-len.false, c.len.ensures.len) in
    let both = ranked xs c.args.self.now levels c.args.number c.args.i c.in-Some.first c.in-Some.last narrow inside (c.in-Some.ensures.answer xs levels) in (
      omega (arith, c.if-i-len.false, c.len.ensures.len, levels.count),
      omega (arith, both.0, both.1, c.in-Some.ensures.inside.0, c.in-Some.ensures.inside.1, c.len.ensures.len, c.len.type_inv),
    )

pub returns-else-count-i-clause-answer : goal.returns-else-count-i-clause-answer
returns-else-count-i-clause-answer c = λ xs levels.
    let P : ℕ → Type 0 = λ w. c.args.number < 2 ^ w in
    let narrow = subst P c.width.ensures.width (c.fits.ensures.0 c.if-not-fits.false) in
    let inside : c.args.i ≤ c.args.self.now.len = omega (arith, c.if-i-len.false, c.len.ensures.len) in
    let both = ranked xs c.args.self.now levels c.args.number c.args.i c.in-Some.first c.in-Some.last narrow inside (c.in-Some.ensures.answer xs levels) in
    omega (
      arith,
      both.0,
      both.1,
      c.in-Some.ensures.inside.0,
      c.in-Some.ensures.inside.1,
      c.len.ensures.len,
      c.len.type_inv,
      c.if-count-i.false,
    )
