-- The mask leaves the bits of the digits that the part has.
use Rattle.std.proofs.Common.{◌≡◌, ℕ, ◌+◌, ◌-◌, ◌*◌, ◌/◌, ◌^◌, ◌==◌, get_or, ap, ap₂, ◌∙◌, arith}
use Rattle.std.specs.Int.{bit_at}
use Rattle.bit_lists.proofs.lemmas.WordLemmas.{truth}
use Rattle.digits.proofs.lemmas.PickedLemmas.{masked_bit}
use Rattle.digits.proofs.selecting.matches_of_part.Goals as goal

pub returns-clause-bits : goal.returns-clause-bits
returns-clause-bits g c = λ j inside position.
    let k = c.args.line in
    let p = c.args.part in
    let W : ℕ → ℕ = λ i. get_or (g.S.DigitSource.lists c.args.source.now).lines i 0 in
    let i1 : 8 * k + (1 + 2 * p) ≡ 8 * k + 1 + 2 * p = omega arith in
    let i2 : 8 * k + (2 + 2 * p - p / 3) ≡ 8 * k + 2 + 2 * p - p / 3 = omega arith in
    masked_bit c.matches.result p j c.requires.part inside position
    ∙ c.matches.ensures j inside
    ∙ ap₂ (λ (a b : ℕ). truth (bit_at a j + 2 * bit_at b j == c.args.digit)) (c.word-low.ensures ∙ ap W i1)
    (ap (λ (w : ℕ). w / 2 ^ (32 * (p / 3))) (c.word.ensures ∙ ap W i2))
