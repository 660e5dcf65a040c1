-- As many zeros are before the position as the item says above its low digits, so these two are the item.
use Rattle.std.proofs.Common.{◌≡◌, ℕ, ◌+◌, ◌-◌, ◌%◌, ◌^◌, ap, ◌∙◌, arith}
use Rattle.elias_fano.proofs.lemmas.ItemLemmas.{position-after, held-is, held-fits}
use Rattle.elias_fano.specs.Low.{joined_item}
use Rattle.elias_fano.proofs.searching.item_at_one.Goals as goal

pub returns-clause-item : goal.returns-clause-item
returns-clause-item c = λ xs n upper h.
    let item : ℕ → ℕ = λ k. joined_item k c.args.low.now c.args.at in
    let after = position-after xs n _ _ upper _ _ h in
    let above : (c.args.position + (2 ^ 64 - c.args.at)) % 2 ^ 64 ≡ c.args.position - c.args.at =
    omega (arith, after, c.ranges.position.fits, c.ranges.at.fits) in
    c.join_digits.ensures.number (omega (arith, ap item above, held-fits xs n _ _ upper _ _ h))
    ∙ ap item above ∙ held-is xs n _ _ upper _ _ h
