-- The first number is the first that is at least 0.
use Rattle.std.proofs.Common.{◌≡◌, drop, ap, ◌∙◌}
use Rattle.elias_fano.specs.Parts.{items_of}
use Rattle.postings.proofs.HeldLemmas.{same_parts, held_first}
use Rattle.postings.proofs.PartLemmas.{has_lengths}
use Rattle.postings.specs.Held.{IsSpotHeld}
use Rattle.postings.proofs.sequence.Seeker.start.Goals as goal

pub total_start_on-requires-clause-lengths : goal.total_start_on-requires-clause-lengths
total_start_on-requires-clause-lengths c = has_lengths _ _ _ _ _ c.requires.parts.1.are

pub unreachable-requires : goal.unreachable-requires
unreachable-requires c = c.in-None.ensures.started c.requires.parts.0 c.requires.parts.1

pub invariant_of-result : goal.invariant_of-result
invariant_of-result c =
    let h = c.requires.parts.1 in
    let xs = c.requires.parts.0 in
    let s = c.args.source.lists in
    let f = c.total_start_on.ensures.fragments in
    let is : items_of c.args.len c.args.low.width c.args.low.words s.words ≡ xs = c.parts_hold_items.ensures xs c.args.len c.args.low.width c.args.low.words s.words h.are in
    same_parts (λ w ws l. IsSpotHeld c.args.len w ws l c.in-Some.spot) c.args.low c.total_start_on.new.low s c.total_start_on.new.source.lists f.words f.width c.total_start_on.ensures.reads.same
    (held_first xs c.args.len c.args.low.width c.args.low.words s c.in-Some.spot h is c.requires.sizes (c.in-Some.ensures.started xs h).0)

pub returns-clause-left : goal.returns-clause-left
returns-clause-left c = λ xs h.
    let s = c.args.source.lists in
    let f = c.total_start_on.ensures.fragments in
    let is : items_of c.args.len c.args.low.width c.args.low.words s.words ≡ xs = c.parts_hold_items.ensures xs c.args.len c.args.low.width c.args.low.words s.words h.are in
    same_parts (λ w ws l. drop c.in-Some.spot.at (items_of c.args.len w ws l.words) ≡ xs) c.args.low c.total_start_on.new.low s c.total_start_on.new.source.lists f.words f.width c.total_start_on.ensures.reads.same
    (ap (drop c.in-Some.spot.at) is ∙ (c.in-Some.ensures.started xs h).1)
