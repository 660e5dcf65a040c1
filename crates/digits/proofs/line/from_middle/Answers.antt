-- The words of the open line are those of the lines.
use Rattle.std.proofs.Common.{◌≡◌, ℕ, ◌+◌, ◌*◌, ◌/◌, ◌^◌, get_or, sym, ap, ◌∙◌, arith}
use Rattle.digits.proofs.lemmas.DigitLemmas.{matched_at}
use Rattle.digits.proofs.lemmas.MiddleLemmas.{middle_found}
use Rattle.digits.proofs.line.from_middle.Goals as goal

pub returns : goal.returns
returns g c =
    let words = (g.S.DigitSource.lists c.args.source.now).lines in
    let k = c.args.line in
    let p = c.args.position in
    let h = p / 128 in
    let W : ℕ → ℕ = λ i. get_or words i 0 in
    let i1 : 8 * k + (4 * h + 1) ≡ 8 * k + 4 * h + 1 = omega arith in
    let i2 : 8 * k + (4 * h + 2) ≡ 8 * k + 4 * h + 2 = omega arith in
    let i3 : 8 * k + (4 * h + 3) ≡ 8 * k + 4 * h + 3 = omega arith in
    let i4 : 8 * k + (4 + 3 * h) ≡ 8 * k + 4 + 3 * h = omega arith in
    middle_found words k c.args.digit p _ _ _ _ _ _ c.requires.short c.requires.inside c.requires.position
    (matched_at _ _ _ _ c.args.digit _ c.matches-in_first.ensures (sym (c.word-low_one.ensures ∙ ap W i1)) (sym (c.word-high_one.ensures ∙ ap W i2)))
    (matched_at _ _ _ _ c.args.digit _ c.matches-in_second.ensures (sym (c.word-low_two.ensures ∙ ap W i3))
    (ap (λ (w : ℕ). w / 2 ^ (32 * h)) (sym (c.word.ensures ∙ ap W i4))))
    c.masks-one.ensures.first c.masks-one.ensures.second
    c.ones_under.ensures.below c.ones_under.ensures.above c.ones_under-2.ensures.below c.ones_under-2.ensures.above
