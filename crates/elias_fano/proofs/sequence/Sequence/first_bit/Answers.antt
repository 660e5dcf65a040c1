-- The position that is selected is that of the number; where none is left, the end comes after all ones.
use Rattle.std.proofs.Common.{◌≡◌, ℕ, List, length, sym, ap, subst, ◌∙◌, arith}
use Rattle.std.specs.Box.{boxed_slice_items}
use Rattle.elias_fano.proofs.lemmas.CursorLemmas.{HasBefore-one, HasBefore-end}
use Rattle.elias_fano.proofs.lemmas.SizeLemmas.{upper_few}
use Rattle.elias_fano.proofs.lemmas.UpperLemmas.{ones_are}
use Rattle.elias_fano.specs.Parts.{ArePartsOf}
use Rattle.elias_fano.proofs.sequence.Sequence.first_bit.Goals as goal
use Rattle.elias_fano.proofs.sequence.Sequence.first_bit.Goals.{After-self}

parts : (g : _) (c : After-self g)
    → let e = c.self.inside in
    ArePartsOf c.args.self.now.items e.len e.width (boxed_slice_items e.low) (boxed_slice_items e.upper.content)
parts g c =
    let e = c.self.inside in
    let P : List ℕ → Type 0 = λ xs. ArePartsOf xs e.len e.width (boxed_slice_items e.low) (boxed_slice_items e.upper.content) in
    subst P (ap (λ v. v.items) c.self.view_is) c.self.invariant

pub select-requires : goal.select-requires
select-requires g c =
    let h = parts g (goal.at.select-requires g c).After-self in
    omega (arith, h.count, c.if-index-self.true, ones_are _ _ _ h.upper_is)

pub overflow_mul-result : goal.overflow_mul-result
overflow_mul-result g c =
    let h = parts g (goal.at.overflow_mul-result g c).After-self in
    let few = upper_few c.args.self.now.items in
    omega (arith, few, h.sequence.short, c.upper_words.ensures.words)

pub returns-then-index-self : goal.returns-then-index-self
returns-then-index-self g c =
    let h = parts g (goal.at.returns-then-index-self g c).After-self in
    λ upper is. HasBefore-one c.args.self.now.items _ _ _ _ upper c.args.index c.select.result h is
    (omega (arith, h.count, c.if-index-self.true)) c.select.ensures

pub returns-else-index-self : goal.returns-else-index-self
returns-else-index-self g c =
    let h = parts g (goal.at.returns-else-index-self g c).After-self in
    let all : c.args.index ≡ length c.args.self.now.items = omega (arith, h.count, c.requires, c.if-index-self.false) in
    λ upper is. HasBefore-end c.args.self.now.items _ upper _ is (omega (arith, c.upper_words.ensures.words)) ∙ sym all
