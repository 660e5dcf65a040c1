-- The last one before bit limit is that of the last number left.
use Rattle.std.proofs.Common.{◌-◌, [], ◌∷◌, ◌++◌, sym, ap, ◌∙◌, arith}
use Rattle.elias_fano.proofs.lemmas.AheadLemmas.{ReadsAhead-fewer}
use Rattle.elias_fano.proofs.lemmas.CursorLemmas.{some-last, limit-some, last-has, IsCursor-last, items_left-none, items_left-last}
use Rattle.elias_fano.proofs.lemmas.ItemLemmas.{upper-short, fragment-of, unread-has}
use Rattle.elias_fano.specs.Numbers.{items_left}
use Rattle.elias_fano.specs.Parts.{items_of}
use Rattle.elias_fano.proofs.iterating.NumbersDoubleEndedIterator.next_back.Goals as goal

pub returns-then-self-clause-steps : goal.returns-then-self-clause-steps
returns-then-self-clause-steps c =
    let none = sym c.self.view_is ∙ items_left-none _ c.self.inside.start c.self.inside.end c.if-self.true in
    (none, none)

pub overflow_sub-self-inside : goal.overflow_sub-self-inside
overflow_sub-self-inside c = limit-some _ _ _ _ _ _ _ _ _ c.self.invariant.0 c.if-self.false

pub rfind_bit_one_unchecked-position-requires-clause-exists : goal.rfind_bit_one_unchecked-position-requires-clause-exists
rfind_bit_one_unchecked-position-requires-clause-exists c =
    some-last _ _ _ _ _ _ _ _ _ c.self.invariant.0 c.if-self.false

pub rfind_bit_one_unchecked-position-requires-clause-short : goal.rfind_bit_one_unchecked-position-requires-clause-short
rfind_bit_one_unchecked-position-requires-clause-short c =
    upper-short _ _ _ _ _ c.self.invariant.0.parts

pub item_at_one-number-requires : goal.item_at_one-number-requires
item_at_one-number-requires c =
    fragment-of _ _ _ _ _ _ _ (unread-has _ _ _ _ _ _ _ _ c.new.ensures
    (last-has _ _ _ _ _ _ _ _ _ c.self.invariant.0 c.if-self.false _ c.rfind_bit_one_unchecked-position.ensures))

pub invariant_of-self : goal.invariant_of-self
invariant_of-self c =
    let it = c.self.inside in (
      IsCursor-last _ _ _ _ _ _ _ _ _ c.self.invariant.0 c.if-self.false _ c.rfind_bit_one_unchecked-position.ensures,
      ReadsAhead-fewer it.low.now it.width it.at_once it.start it.end it.ahead.until it.ahead.digits (it.end - 1) _
          c.self.invariant.1 (omega arith) c.min-self-inside.ensures,
    )

pub returns-clause-steps : goal.returns-clause-steps
returns-clause-steps c =
    let it = c.self.inside in
    let xs = items_of it.len it.width it.low.now it.upper.now in
    let h = c.self.invariant.0 in
    let has = last-has _ _ _ _ _ _ _ _ _ h c.if-self.false _ c.rfind_bit_one_unchecked-position.ensures in
    let number = c.item_at_one-number.ensures.item _ _ _ (unread-has _ _ _ _ _ _ _ _ c.new.ensures has) in
    sym c.self.view_is
    ∙ items_left-last xs it.start it.end c.if-self.false (omega (arith, h.within, h.parts.count))
    ∙ ap (λ x. items_left xs it.start (it.end - 1) ++ x ∷ []) (sym number)
