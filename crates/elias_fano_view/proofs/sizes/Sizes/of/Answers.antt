-- There are no more numbers above the low digits than twice as many as items.
use Rattle.std.proofs.Common.{◌≡◌, ⊎_elim, arith}
use Rattle.elias_fano_view.proofs.RoomLemmas.{few_above, vectors-few}
use Rattle.elias_fano_view.proofs.sizes.Sizes.of.Goals as goal
use Rattle.elias_fano_view.proofs.sizes.Sizes.of.Goals.{After-low_width-width}

none : (c : After-low_width-width) → c.args.len ≡ 0 → c.args.largest ≡ 0
none c e = ⊎_elim (λ both. both.1) (λ some. absurd (some e)) c.else-len-eq0.either

pub overflow_add-len : goal.overflow_add-len
overflow_add-len c =
    let few = few_above c.args.len c.args.largest _ (none c) c.low_width-width.ensures.width in
    omega (arith, few, c.if-len.false)

pub overflow_add-len-2 : goal.overflow_add-len-2
overflow_add-len-2 c =
    let few = few_above c.args.len c.args.largest _ (none c) c.low_width-width.ensures.width in
    omega (arith, few, c.if-len.false)

pub returns-clause-few : goal.returns-clause-few
returns-clause-few c =
    let few =
    vectors-few c.args.len c.args.largest c.low_width-width.result
    (none (goal.at.returns-clause-few c).After-low_width-width) c.low_width-width.ensures.width in
    omega (arith, few, c.div_ceil.ensures, c.div_ceil-words.ensures)
