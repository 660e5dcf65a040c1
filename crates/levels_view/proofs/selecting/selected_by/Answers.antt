-- The kind of bit that is selected is the one that is asked for.
use Rattle.std.proofs.Common.{ℕ, ◌<◌, Bool, true, false, List, IsSomeAnd, sym, subst, arith}
use Rattle.bitm_tables.specs.declared.answer.Answer.{Answer}
use Rattle.bitm_tables.specs.declared.answer.Answer.TheVariants.{Found, Absent, Wrong}
use Rattle.bitm_select.specs.Answers.{position_in, IsSelected}
use Rattle.bit_lists.specs.Count.{count_of, Picks}
use Rattle.bitm_tables.specs.Tables.{bits_in}
use Rattle.levels_view.proofs.selecting.selected_by.Goals as goal

picked_in : (b : List Bool) (v : Bool) (r : ℕ) (a : Answer ℕ) → IsSelected b v r a → r < count_of b v → IsSomeAnd (position_in a) (Picks b v r)
picked_in b v r (Found p) h less = h
picked_in b v r Absent h less = absurd (omega (arith, h, less))
picked_in b v r Wrong h less = h

pub returns-then-digit-clause-answer : goal.returns-then-digit-clause-answer
returns-then-digit-clause-answer g c = λ tables f less.
    let b = bits_in (g.T.TableSource.lists c.args.source.now) in
    let r = c.args.rank in
    let P : Bool → Type 0 = λ v. (r < count_of b v → IsSomeAnd c.found.result (Picks b v r)) in
    let of : IsSomeAnd c.found.result (Picks b c.args.digit r) =
    (subst P (sym c.if-digit.true)
    (λ few. subst (λ o. IsSomeAnd o (Picks b true r)) (sym c.found.ensures) (picked_in b true r _ (c.one.ensures.answer tables f) few))) less in
    of

pub returns-else-digit-clause-answer : goal.returns-else-digit-clause-answer
returns-else-digit-clause-answer g c = λ tables f less.
    let b = bits_in (g.T.TableSource.lists c.args.source.now) in
    let r = c.args.rank in
    let P : Bool → Type 0 = λ v. (r < count_of b v → IsSomeAnd c.found-else-digit.result (Picks b v r)) in
    let of : IsSomeAnd c.found-else-digit.result (Picks b c.args.digit r) =
    (subst P (sym c.if-digit.false)
    (λ few. subst (λ o. IsSomeAnd o (Picks b false r)) (sym c.found-else-digit.ensures) (picked_in b false r _ (c.zero.ensures.answer tables f) few))) less in
    of
