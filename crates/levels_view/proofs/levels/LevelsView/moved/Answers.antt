-- By the 1 bits before it an item moves to where it stands, or would, at the next level.
use Rattle.std.proofs.Common.{◌≡◌, ◌+◌, ◌-◌, ◌≤◌, length, ◌∙◌, arith}
use Rattle.matrix_levels.specs.Levels.{level, partition_position}
use Rattle.matrix_levels.specs.Matrix.{digit_position}
use Rattle.matrix_levels.proofs.lemmas.PartLemmas.{moved-le, moved-one, moved-zero}
use Rattle.levels_view.proofs.StepLemmas.{len-short, level-len, ones-few}
use Rattle.levels_view.proofs.levels.LevelsView.moved.Goals as goal

pub returns-then-digit : goal.returns-then-digit
returns-then-digit c = λ xs b h counted.
    let l = c.args.self.now in
    let k = digit_position l c.args.depth in
    let row = level xs l.width c.args.depth in
    let z = c.zeros_of_level.result in
    let is : z + c.args.ones ≡ partition_position k c.args.digit row c.args.position =
    moved-one k c.args.digit row c.args.position z c.args.ones c.if-digit.true (c.zeros_of_level.ensures ∙ h.zeros_are c.args.depth c.requires.depth) counted in
    omega (arith, is, moved-le k c.args.digit row c.args.position, level-len xs l b h c.args.depth, len-short l.width l.len h.some h.short)

pub returns-else-digit : goal.returns-else-digit
returns-else-digit c = λ xs b h counted.
    let l = c.args.self.now in
    let k = digit_position l c.args.depth in
    let row = level xs l.width c.args.depth in
    let inside : c.args.position ≤ length row = omega (arith, c.requires.inside, level-len xs l b h c.args.depth) in
    let is : c.args.position - c.args.ones ≡ partition_position k c.args.digit row c.args.position =
    moved-zero k c.args.digit row c.args.position c.args.ones c.if-digit.false inside counted in
    omega (arith, is, counted, ones-few xs l b h c.args.depth c.args.position c.requires.inside, c.ranges)
