-- The first of the ones from that of the number at the start on is its own.
use Rattle.std.proofs.Common.{◌+◌, ◌∷◌, sym, ap, ◌∙◌, arith}
use Rattle.elias_fano.proofs.lemmas.AheadLemmas.{ReadsAhead-none}
use Rattle.elias_fano.proofs.lemmas.CursorLemmas.{first-has, IsCursor-first, items_left-none, items_left-first}
use Rattle.elias_fano.proofs.lemmas.ItemLemmas.{fragment-of, unread-has}
use Rattle.elias_fano.specs.Numbers.{items_left}
use Rattle.elias_fano.specs.Parts.{items_of}
use Rattle.elias_fano.proofs.iterating.Numbers.next_alone.Goals as goal

pub returns-then-self : goal.returns-then-self
returns-then-self c =
    let none = sym c.self.view_is ∙ items_left-none _ c.self.inside.start c.self.inside.end c.if-self.true in
    (none, none)

pub item_at_one-requires : goal.item_at_one-requires
item_at_one-requires c =
    fragment-of _ _ _ _ _ _ _ (unread-has _ _ _ _ _ _ _ _ c.new.ensures
    (first-has _ _ _ _ _ _ _ _ _ c.self.invariant.0 c.if-self.false _ _ c.in-Some.ensures.steps))

pub invariant_of-self : goal.invariant_of-self
invariant_of-self c =
    let it = c.self.inside in
    let h = c.self.invariant.0 in (
      IsCursor-first _ _ _ _ _ _ _ _ _ h c.if-self.false _ _ c.in-Some.ensures.steps,
      ReadsAhead-none _ it.len it.width it.low.now it.upper.now it.at_once it.start (it.start + 1) it.end _ it.ahead.until it.ahead.digits _
          h.parts c.self.invariant.1 (omega arith) h.within c.nothing-self-inside.ensures.until c.nothing-self-inside.ensures.digits,
    )

pub returns : goal.returns
returns c =
    let it = c.self.inside in
    let xs = items_of it.len it.width it.low.now it.upper.now in
    let h = c.self.invariant.0 in
    let has = first-has _ _ _ _ _ _ _ _ _ h c.if-self.false _ _ c.in-Some.ensures.steps in
    let number = c.item_at_one.ensures.item _ _ _ (unread-has _ _ _ _ _ _ _ _ c.new.ensures has) in
    sym c.self.view_is
    ∙ items_left-first xs it.start it.end c.if-self.false (omega (arith, h.within, h.parts.count))
    ∙ ap (λ x. x ∷ items_left xs (it.start + 1) it.end) (sym number)
