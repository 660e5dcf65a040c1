-- The samples of the rank's interval and of the next one say between which entries it is.
use Rattle.std.proofs.Common.{◌≡◌, ℕ, ◌+◌, ◌-◌, ◌/◌, ◌%◌, ◌^◌, ◌<◌, Bool, List, if◌then◌else◌, length, ap, subst, sym, ◌∙◌, arith}
use Rattle.std.specs.Int.{div_ceil}
use Rattle.bit_lists.specs.Bits.{digit}
use Rattle.bitm_strategies.specs.Density.{clamped_log}
use Rattle.bitm_strategies.specs.Samples.{part_of, parts}
use Rattle.tables_view.specs.Samples.{AreSamplesOf, IsBounded}
use Rattle.tables_view.proofs.BoundsLemmas.{HasBounds, bounded_last, bounded_next, past}
use Rattle.tables_view.proofs.sampled.bounds_of.Goals as goal
use Rattle.tables_view.proofs.sampled.bounds_of.Goals.{After-entry_behind-end, After-first_entry-low, then-end-entries-via-then-end-entries, then-end-entries-via-else-end-entries+then-low-end}

pub returns-then-interval-count-clause-own : goal.returns-then-interval-count-clause-own
returns-then-interval-count-clause-own c b v own inside size =
    past b v (clamped_log c.args.borrowed.now.log2) c.args.part c.args.rank (omega arith) inside c.args.borrowed.now.samples.now own.samples_are
    c.samples_to-first.result c.samples_to.result c.saturating_sub-count.result (c.args.rank / 2 ^ c.clamped_log-log2.result)
    (c.samples_to-first.ensures.own b v own (omega (arith, inside))) (c.samples_to.ensures.own b v own (omega (arith, inside)))
    c.saturating_sub-count.ensures (ap (λ (d : ℕ). c.args.rank / 2 ^ d) c.clamped_log-log2.ensures.value) c.if-interval-count.true c.args.entries size c.requires.some

-- the entry of a sample, by the logarithm that the caller's stands for
low_is : (low s rank d d' : ℕ) → low ≡ s % 2 ^ 21 + (if digit rank (d - 1) then s / 2 ^ 21 else 0) → d ≡ d'
    → low ≡ s % 2 ^ 21 + (if digit rank (d' - 1) then s / 2 ^ 21 else 0)
low_is low s rank d d' is same = is ∙ ap (λ (k : ℕ). s % 2 ^ 21 + (if digit rank (k - 1) then s / 2 ^ 21 else 0)) same

last : (c : After-first_entry-low) (b : List Bool) (v : Bool) → AreSamplesOf b v c.args.borrowed.now → c.args.part < parts b
    → HasBounds (part_of b c.args.part) v c.args.rank c.first_entry-low.result (div_ceil (length (part_of b c.args.part)) 2048)
last c b v own inside =
    bounded_last b v (clamped_log c.args.borrowed.now.log2) c.args.part c.args.rank (omega arith) inside c.args.borrowed.now.samples.now own.samples_are
    c.samples_to-first.result c.samples_to.result c.saturating_sub-count.result (c.args.rank / 2 ^ c.clamped_log-log2.result)
    (c.samples_to-first.ensures.own b v own (omega (arith, inside))) (c.samples_to.ensures.own b v own (omega (arith, inside)))
    c.saturating_sub-count.ensures (ap (λ (d : ℕ). c.args.rank / 2 ^ d) c.clamped_log-log2.ensures.value) (omega (arith, c.if-interval-count.false)) c.first_entry-low.result
    (low_is _ _ _ _ _ c.first_entry-low.ensures c.clamped_log-log2.ensures.value)

pub returns-then-low-entries-clause-own : goal.returns-then-low-entries-clause-own
returns-then-low-entries-clause-own c b v own inside size =
    let d = (goal.at.returns-then-low-entries-clause-own c).After-first_entry-low in
    let low = c.first_entry-low.result in
    subst (λ (n : ℕ). IsBounded (part_of b c.args.part) v c.args.rank n low n) (sym size) (last d b v own inside).bounded

pub returns-else-low-entries-clause-own : goal.returns-else-low-entries-clause-own
returns-else-low-entries-clause-own c b v own inside size =
    let d = (goal.at.returns-else-low-entries-clause-own c).After-first_entry-low in
    omega (arith, (last d b v own inside).some, size, c.if-low-entries.false)

next : (c : After-entry_behind-end) (b : List Bool) (v : Bool) → AreSamplesOf b v c.args.borrowed.now → c.args.part < parts b
    → HasBounds (part_of b c.args.part) v c.args.rank c.first_entry-low.result c.entry_behind-end.result
next c b v own inside =
    bounded_next b v (clamped_log c.args.borrowed.now.log2) c.args.part c.args.rank (omega arith) inside c.args.borrowed.now.samples.now own.samples_are
    c.samples_to-first.result c.samples_to.result c.saturating_sub-count.result (c.args.rank / 2 ^ c.clamped_log-log2.result)
    (c.samples_to-first.ensures.own b v own (omega (arith, inside))) (c.samples_to.ensures.own b v own (omega (arith, inside)))
    c.saturating_sub-count.ensures (ap (λ (d : ℕ). c.args.rank / 2 ^ d) c.clamped_log-log2.ensures.value) (omega (arith, c.if-interval-count.false)) c.first_entry-low.result
    (low_is _ _ _ _ _ c.first_entry-low.ensures c.clamped_log-log2.ensures.value)
    (omega (arith, c.if-interval-count-2.false)) c.entry_behind-end.result c.entry_behind-end.ensures

pub returns-then-end-entries-clause-own : goal.returns-then-end-entries-clause-own
returns-then-end-entries-clause-own c b v own inside size =
    let d = (goal.at.returns-then-end-entries-clause-own c).After-entry_behind-end in
    let h = next d b v own inside in
    elim c.then-end-entries.branch [
      | then-end-entries-via-then-end-entries w ↦ omega (arith, h.within, size, w.if-end-entries.true)
      | then-end-entries-via-else-end-entries+then-low-end w ↦ omega (arith, h.some, w.if-low-end.true)
    ]

pub returns-clause-own : goal.returns-clause-own
returns-clause-own c b v own inside size =
    let d = (goal.at.returns-clause-own c).After-entry_behind-end in
    let low = c.first_entry-low.result in
    subst (λ (n : ℕ). IsBounded (part_of b c.args.part) v c.args.rank n low c.entry_behind-end.result) (sym size) (next d b v own inside).bounded
