-- The number after all that are less comes first.
use Rattle.std.proofs.Common.{◌^◌, length, slice_range, sym, ap, ◌∙◌, arith}
use Rattle.matrix_levels.proofs.lemmas.CountLemmas.{length-range}
use Rattle.matrix_levels.proofs.DistinctLemmas.{after-inside, coming-first, coming-none, stands-after}
use Rattle.wavelet_matrix.proofs.distinct.DistinctValuesIterator.next.Goals as goal

pub returns-then-self-clause-steps : goal.returns-then-self-clause-steps
returns-then-self-clause-steps g c =
    let it = c.self.inside in
    let h = c.self.invariant in
    let none =
    sym c.self.view_is
    ∙ coming-none (slice_range it.matrix.now.items it.start it.end) (2 ^ it.matrix.now.width) it.less
    (omega (arith, length-range it.matrix.now.items it.start it.end h.0 h.1, c.if-self.true)) in
    (none, none)

pub overflow_add-self : goal.overflow_add-self
overflow_add-self g c =
    let it = c.self.inside in
    let h = c.self.invariant in
    let found = c.quantile_and_count-number.ensures in
    omega (
      arith,
      after-inside (slice_range it.matrix.now.items it.start it.end) (2 ^ it.matrix.now.width) it.less _ _ h.2 found.number found.count,
      length-range it.matrix.now.items it.start it.end h.0 h.1,
    )

pub invariant_of-self : goal.invariant_of-self
invariant_of-self g c =
    let it = c.self.inside in
    let h = c.self.invariant in
    let found = c.quantile_and_count-number.ensures in
    (h.0, h.1, stands-after (slice_range it.matrix.now.items it.start it.end) (2 ^ it.matrix.now.width) it.less _ _ h.2 found.number found.count)

pub returns-clause-steps : goal.returns-clause-steps
returns-clause-steps g c =
    let it = c.self.inside in
    let h = c.self.invariant in
    let found = c.quantile_and_count-number.ensures in
    sym c.self.view_is
    ∙ coming-first (slice_range it.matrix.now.items it.start it.end) (2 ^ it.matrix.now.width) it.less _ _ h.2 found.number found.count

pub returns-clause-goes : goal.returns-clause-goes
returns-clause-goes g c =
    let step = ap length (returns-clause-steps g c) in
    record { on = λ f. (tt, tt, omega (arith, step)); keeps = tt; rests = λ f. tt }
