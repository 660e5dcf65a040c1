-- The numbers that are equal stand side by side after the last level.
use Rattle.std.proofs.Common.{◌≡◌, ◌+◌, ◌≤◌, ◌<◌, length, subst, sym, ap, arith}
use Rattle.std.proofs.lemmas.Option.{same_Some}
use Rattle.digit_levels.specs.Levels.{quad_level, quad_level_position}
use Rattle.digit_levels.specs.Matrix.{height}
use Rattle.matrix_levels.specs.Numbers.{occurrences_before, PicksItem}
use Rattle.digit_levels.proofs.lemmas.LevelLemmas.{all-fit-height, fits-height}
use Rattle.digit_levels.proofs.lemmas.QueryLemmas.{ranked}
use Rattle.digit_levels.proofs.lemmas.WalkLemmas.{picked-last}
use Rattle.digit_levels.proofs.levels.DigitLevels.last_position_on.Goals as goal

pub returns-then-count-k-clause-answer : goal.returns-then-count-k-clause-answer
returns-then-count-k-clause-answer c = λ xs levels.
    let m = c.args.self.now in
    let v = c.args.number in
    let inside : c.len-len.result ≤ m.len = omega (arith, c.len-len.ensures.len) in
    let all : c.len-len.result ≡ length xs = omega (arith, c.len-len.ensures.len, levels.count) in
    let both = ranked xs m levels v c.len-len.result c.in-Some.first c.in-Some.last c.requires inside (c.in-Some.ensures.answer xs levels) in
    omega (arith, both.0, ap (occurrences_before xs v) all, c.saturating_sub-count.ensures, c.if-count-k.true)

pub returns-clause-answer : goal.returns-clause-answer
returns-clause-answer c = λ xs levels.
    let m = c.args.self.now in
    let h = height m in
    let v = c.args.number in
    let inside : c.len-len.result ≤ m.len = omega (arith, c.len-len.ensures.len) in
    let all : c.len-len.result ≡ length xs = omega (arith, c.len-len.ensures.len, levels.count) in
    let both = ranked xs m levels v c.len-len.result c.in-Some.first c.in-Some.last c.requires inside (c.in-Some.ensures.answer xs levels) in
    let first : c.in-Some.first ≡ quad_level_position xs h v h 0 = ap (λ p. p.0) (same_Some _ _ (c.in-Some.ensures.answer xs levels)) in
    let some : c.args.k < occurrences_before xs v (length xs) =
    omega (arith, both.0, ap (occurrences_before xs v) all, c.saturating_sub-count.ensures, c.if-count-k.false) in
    subst (λ p. PicksItem (quad_level xs h h) v c.args.k (p + c.args.k)) (sym first)
    (picked-last xs h v (all-fit-height m.width xs levels.fit) (fits-height m.width v c.requires) c.args.k some)
