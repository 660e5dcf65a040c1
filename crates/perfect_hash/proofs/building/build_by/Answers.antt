-- The levels that were made are the parts.
use Rattle.std.proofs.Common.{[], map, ap, ◌∙◌}
use Rattle.std.specs.Box.{boxed_slice_items}
use Rattle.bit_lists.specs.Bits.{bits_of}
use Rattle.perfect_hash.specs.Levels.{fall_in, AreChosen, AreSized, LeadTo}
use Rattle.perfect_hash.specs.Positions.{words_for}
use Rattle.perfect_hash.proofs.lemmas.PartsLemmas.{of_parts, perfect_parts}
use Rattle.perfect_hash.proofs.building.build_by.Goals as goal

pub returns-in-Ok-build-clause-perfect : goal.returns-in-Ok-build-clause-perfect
returns-in-Ok-build-clause-perfect g c =
    perfect_parts g.P.Placing.fall g.H.KeyHash.hash c.args.keys.now c.over_by.result c.args.hasher c.in-Ok.made.placing
    c.in-Ok.made.sizes.items c.in-Ok.made.words.items _ _ c.over_by.ensures
    (ap (λ w. bits_of (boxed_slice_items w)) c.in-Ok-build.ensures.kept ∙ ap bits_of c.into_boxed_slice.ensures.items)
    c.in-Ok.ensures.levels

pub returns-in-Ok-build-clause-sized : goal.returns-in-Ok-build-clause-sized
returns-in-Ok-build-clause-sized g c =
    let by = g.P.Placing.fall in
    let hashes = map (g.H.KeyHash.hash c.args.hasher) c.args.keys.now in
    of_parts (λ p s b. AreSized (words_for c.args.percent) (fall_in (by p) s) hashes b 0 0 s) c.over_by.result c.args.hasher c.in-Ok.made.placing
    c.in-Ok.made.sizes.items c.in-Ok.made.words.items _ _ c.over_by.ensures
    (ap (λ w. bits_of (boxed_slice_items w)) c.in-Ok-build.ensures.kept ∙ ap bits_of c.into_boxed_slice.ensures.items)
    c.in-Ok.ensures.sized

pub returns-in-Ok-build-clause-levels : goal.returns-in-Ok-build-clause-levels
returns-in-Ok-build-clause-levels g c =
    let by = g.P.Placing.fall in
    let hashes = map (g.H.KeyHash.hash c.args.hasher) c.args.keys.now in
    of_parts (λ p s b. LeadTo (fall_in (by p) s) hashes b 0 0 s []) c.over_by.result c.args.hasher c.in-Ok.made.placing
    c.in-Ok.made.sizes.items c.in-Ok.made.words.items _ _ c.over_by.ensures
    (ap (λ w. bits_of (boxed_slice_items w)) c.in-Ok-build.ensures.kept ∙ ap bits_of c.into_boxed_slice.ensures.items)
    c.in-Ok.ensures.leave.lead

pub returns-in-Ok-build-clause-chosen : goal.returns-in-Ok-build-clause-chosen
returns-in-Ok-build-clause-chosen g c =
    let by = g.P.Placing.fall in
    let hashes = map (g.H.KeyHash.hash c.args.hasher) c.args.keys.now in
    of_parts (λ p s b. AreChosen g.P.Placing.chooses (fall_in (by p) s) hashes b 0 0 0 s c.args.placing p) c.over_by.result c.args.hasher c.in-Ok.made.placing
    c.in-Ok.made.sizes.items c.in-Ok.made.words.items _ _ c.over_by.ensures
    (ap (λ w. bits_of (boxed_slice_items w)) c.in-Ok-build.ensures.kept ∙ ap bits_of c.into_boxed_slice.ensures.items)
    c.in-Ok.ensures.chosen
