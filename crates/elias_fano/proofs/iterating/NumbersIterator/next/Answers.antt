-- The first of the ones from that of the number at the start on is its own, and the lowest digits ahead are its own.
use Rattle.std.proofs.Common.{◌+◌, ◌<◌, ◌∷◌, bit_and, sym, ap, ◌∙◌, arith}
use Rattle.elias_fano.proofs.lemmas.AheadLemmas.{fragments-to, lowest-ahead, IsAhead-first, joined-ahead}
use Rattle.elias_fano.proofs.lemmas.CursorLemmas.{first-has, IsCursor-first, items_left-first}
use Rattle.elias_fano.proofs.lemmas.ItemLemmas.{parts-width}
use Rattle.elias_fano.specs.Numbers.{items_left}
use Rattle.elias_fano.specs.Parts.{items_of}
use Rattle.elias_fano.proofs.iterating.NumbersIterator.next.Goals as goal

pub look_ahead-requires-clause-fragments : goal.look_ahead-requires-clause-fragments
look_ahead-requires-clause-fragments c =
    let h = c.self.invariant.0 in
    fragments-to _ _ _ _ _ h.parts c.self.inside.end h.within

pub n_lowest_bits-requires : goal.n_lowest_bits-requires
n_lowest_bits-requires c = parts-width _ _ _ _ _ c.self.invariant.0.parts

pub overflow_shr-self : goal.overflow_shr-self
overflow_shr-self c = omega (arith, parts-width _ _ _ _ _ c.self.invariant.0.parts)

pub overflow_shl-result : goal.overflow_shl-result
overflow_shl-result c = omega (arith, parts-width _ _ _ _ _ c.self.invariant.0.parts)

pub invariant_of-self : goal.invariant_of-self
invariant_of-self c =
    let it = c.self.inside in
    let own = c.self.invariant.1 in
    let ahead = c.in-Some.ensures in
    let some : it.start < it.end = omega (arith, ahead.0, ahead.1.within) in (
      IsCursor-first _ _ _ _ _ _ _ _ _ c.self.invariant.0 some _ _ c.in-Some-next.ensures.steps,
      record {
        fit = own.fit;
        some = own.some;
        ahead = λ _. IsAhead-first it.low.now it.width it.start it.end c.in-Some.ahead.until c.in-Some.ahead.digits ahead.1 ahead.0;
      },
    )

pub returns-clause-steps : goal.returns-clause-steps
returns-clause-steps c =
    let it = c.self.inside in
    let xs = items_of it.len it.width it.low.now it.upper.now in
    let h = c.self.invariant.0 in
    let ahead = c.in-Some.ensures in
    let some : it.start < it.end = omega (arith, ahead.0, ahead.1.within) in
    let has = first-has _ _ _ _ _ _ _ _ _ h some _ _ c.in-Some-next.ensures.steps in
    let lowest =
    ap (bit_and c.in-Some.ahead.digits) c.n_lowest_bits.ensures
    ∙ lowest-ahead it.low.now it.width it.start it.end c.in-Some.ahead.until c.in-Some.ahead.digits ahead.1 ahead.0 in
    let number = joined-ahead xs it.len it.width it.low.now it.upper.now it.start c.in-Some-next.position _ has lowest in
    sym c.self.view_is
    ∙ items_left-first xs it.start it.end some (omega (arith, h.within, h.parts.count))
    ∙ ap (λ x. x ∷ items_left xs (it.start + 1) it.end) (sym number)
