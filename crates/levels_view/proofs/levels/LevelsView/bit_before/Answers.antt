-- The rank of a number's bit, from its position on the next level.
use Rattle.std.proofs.Common.{◌≡◌, ℕ, ◌-◌, ◌*◌, true, false, sym, ap, ◌∙◌, arith}
use Rattle.bit_lists.specs.Bits.{digit}
use Rattle.matrix_levels.specs.Matrix.{digit_position}
use Rattle.matrix_levels.proofs.lemmas.BackLemmas.{from-one, from-zero, ranks-fit, zeros-le-position, ones-le-start}
use Rattle.levels_view.proofs.levels.LevelsView.bit_before.Goals as goal

pub returns-then-digit_of : goal.returns-then-digit_of
returns-then-digit_of c = λ xs b k h picked.
    let l = c.args.self.now in
    let one : digit c.args.number (digit_position l c.args.depth) ≡ true =
    ap (λ (w : ℕ). digit c.args.number (w - 1 - c.args.depth)) (sym c.width.ensures.width) ∙ sym c.digit_of.ensures ∙ c.if-digit_of.true in
    from-one xs l b h c.args.depth c.args.number k c.args.position c.requires picked one _
    (omega (arith, c.ones_before_level-ones.ensures, c.zeros_of_level.ensures, c.saturating_sub-among.ensures, c.saturating_add.ensures, zeros-le-position xs l b h c.args.depth c.args.number k c.args.position c.requires picked one, ranks-fit xs l b h c.args.depth c.args.number k c.args.position c.requires picked, ones-le-start xs l b h c.args.depth c.args.number k c.args.position c.requires picked))

pub returns-else-digit_of : goal.returns-else-digit_of
returns-else-digit_of c = λ xs b k h picked.
    let l = c.args.self.now in
    let zero : digit c.args.number (digit_position l c.args.depth) ≡ false =
    ap (λ (w : ℕ). digit c.args.number (w - 1 - c.args.depth)) (sym c.width.ensures.width) ∙ sym c.digit_of.ensures ∙ c.if-digit_of.false in
    from-zero xs l b h c.args.depth c.args.number k c.args.position c.requires picked zero _
    (omega (arith, c.ones_before_level-ones.ensures, ap (λ n. c.args.depth * n) c.len.ensures.len, c.saturating_sub-zeros.ensures, c.saturating_add-else-digit_of.ensures, ranks-fit xs l b h c.args.depth c.args.number k c.args.position c.requires picked))
