-- Each level that is added leaves fewer hashes; where some are left at the end, they collide.
use Rattle.std.proofs.Common.{◌≡◌, ℕ, ◌+◌, length, subst, take, sym, ap, arith, ◌∙◌}
use Rattle.std.specs.List.{sum}
use Rattle.std.proofs.lemmas.Bool.{eqb-false}
use Rattle.std.specs.Vec.{vec_len}
use Rattle.bit_lists.specs.Bits.{bits_of}
use Rattle.perfect_hash.specs.Levels.{fall_in, AreChosen, AreSized}
use Rattle.perfect_hash.specs.Positions.{words_for}
use Rattle.perfect_hash.proofs.lemmas.BuildLemmas.{count_next, no_more}
use Rattle.perfect_hash.proofs.lemmas.CollideLemmas.{collide, collide_with}
use Rattle.perfect_hash.proofs.lemmas.PositionLemmas.{next_short, positive}
use Rattle.perfect_hash.proofs.lemmas.PlacingLemmas.{AreChosen-next, AreSized-next, Leave-next}
use Rattle.perfect_hash.proofs.levels.building.make_levels.Goals as goal

-- the level that was added has as many words as was asked
size_is : (added asked old new n m percent : ℕ) → new ≡ old + added → new ≡ old + asked → asked ≡ words_for percent m → m ≡ n
    → added ≡ words_for percent n
size_is added asked old new n m percent more is words same =
    let e : added ≡ asked = omega (arith, more, is) in
    e ∙ words ∙ ap (words_for percent) same

pub loop-level-preserved : goal.loop-level-preserved
loop-level-preserved g c =
    let by = g.P.Placing.fall in
    let old = c.loop-level.levels in
    let hashes = c.loop-level.hashes.items in
    let adds = c.in_ok-add_level.ensures.added in
    record {
      leave = Leave-next (by old.placing) _ (g.met.P.Placing.inside _) c.args.hashes.items hashes _ old.sizes.items old.words.items _ _
          c.in_ok-add_level.ensures.kept c.loop-level.invariant.leave adds;
      sized = AreSized-next (by old.placing) _ (g.met.P.Placing.inside _) c.args.hashes.items hashes _ old.sizes.items old.words.items _ _
          c.in_ok-add_level.ensures.kept c.loop-level.invariant.leave adds (words_for c.args.percent) c.loop-level.invariant.sized
          (size_is adds.size c.level_words-size.result _ _ (length hashes) c.len.result c.args.percent adds.len c.in_ok-add_level.ensures.len c.level_words-size.ensures
          (omega (arith, c.len.ensures, c.loop-level.hashes.ok.0)));
      chosen = AreChosen-next (by old.placing) _ (g.met.P.Placing.inside _) c.args.hashes.items hashes _ old.sizes.items old.words.items _ _
          c.in_ok-add_level.ensures.kept c.loop-level.invariant.leave adds g.P.Placing.chooses _ old.placing _ c.loop-level.level
          c.loop-level.invariant.chosen c.loop-level.invariant.count
          (let asked : c.level_words-size.result ≡ adds.size = omega (arith, adds.len, c.in_ok-add_level.ensures.len) in
          let C : ℕ → Type 0 = λ n. g.P.Placing.chooses old.placing c.add_level.new.levels.placing (length old.words.items) hashes c.loop-level.level n in
          subst C asked c.in_ok-add_level.ensures.chosen);
      count = count_next _ hashes _ old.sizes.items old.words.items _ _ c.loop-level.level adds c.loop-level.invariant.count;
      short = next_short c.args.percent (length c.args.hashes.items) (length hashes) c.len.result c.level_words-size.result c.loop-level.level
          (length old.words.items) _ c.requires c.loop-level.invariant.fewer (omega (arith, c.len.ensures, c.loop-level.hashes.ok.0))
          c.level_words-size.ensures c.loop-level.invariant.short c.in_ok-add_level.ensures.len;
      fewer = omega (arith, c.loop-level.invariant.fewer, no_more _ hashes _ old.sizes.items old.words.items _ _ adds);
    }

pub returns-clause-collide : goal.returns-clause-collide
returns-clause-collide g c =
    let levels = c.loop-level.levels in
    let count = c.len-else-is_empty-2.result in
    let counted : length c.loop-level.hashes.items ≡ count = omega (arith, c.len-else-is_empty-2.ensures, c.loop-level.hashes.ok.0) in
    let placing = levels.placing in
    let sizes = levels.sizes.items in (
      placing,
      sizes,
      collide (fall_in (g.P.Placing.fall placing) sizes)
          (λ hash level w some. g.met.P.Placing.inside placing (sum (take level sizes)) hash level w some) c.args.hashes.items levels.sizes.items levels.words.items c.loop-level.hashes.items count
          c.loop-level.invariant.leave
          (omega (arith, c.loop-level.invariant.count, c.loop-level-test.false, c.loop-level.auto.level-end))
          counted
          (positive count (λ none. eqb-false (vec_len c.loop-level.hashes) 0 (sym c.is_empty-2.ensures ∙ c.if-is_empty-2.false)
          (omega (arith, none, c.len-else-is_empty-2.ensures)))),
    )

pub returns-clause-collide_sized : goal.returns-clause-collide_sized
returns-clause-collide_sized g c =
    let levels = c.loop-level.levels in
    let count = c.len-else-is_empty-2.result in
    let counted : length c.loop-level.hashes.items ≡ count = omega (arith, c.len-else-is_empty-2.ensures, c.loop-level.hashes.ok.0) in
    let placing = levels.placing in
    let sizes = levels.sizes.items in
    let fall : ℕ → ℕ → ℕ → ℕ = fall_in (g.P.Placing.fall placing) sizes in
    let found =
    collide_with (λ words. AreSized (words_for c.args.percent) fall c.args.hashes.items (bits_of words) 0 0 sizes) fall
    (λ hash level w some. g.met.P.Placing.inside placing (sum (take level sizes)) hash level w some) c.args.hashes.items sizes levels.words.items c.loop-level.hashes.items count
    c.loop-level.invariant.leave
    (omega (arith, c.loop-level.invariant.count, c.loop-level-test.false, c.loop-level.auto.level-end))
    counted
    (positive count (λ none. eqb-false (vec_len c.loop-level.hashes) 0 (sym c.is_empty-2.ensures ∙ c.if-is_empty-2.false)
    (omega (arith, none, c.len-else-is_empty-2.ensures))))
    c.loop-level.invariant.sized in
    (placing, sizes, found.0, found.1, found.2)

pub returns-clause-collide_chosen : goal.returns-clause-collide_chosen
returns-clause-collide_chosen g c =
    let levels = c.loop-level.levels in
    let count = c.len-else-is_empty-2.result in
    let counted : length c.loop-level.hashes.items ≡ count = omega (arith, c.len-else-is_empty-2.ensures, c.loop-level.hashes.ok.0) in
    let placing = levels.placing in
    let sizes = levels.sizes.items in
    let fall : ℕ → ℕ → ℕ → ℕ = fall_in (g.P.Placing.fall placing) sizes in
    let found =
    collide_with (λ words. AreChosen g.P.Placing.chooses fall c.args.hashes.items (bits_of words) 0 0 0 sizes c.args.placing placing) fall
    (λ hash level w some. g.met.P.Placing.inside placing (sum (take level sizes)) hash level w some) c.args.hashes.items sizes levels.words.items c.loop-level.hashes.items count
    c.loop-level.invariant.leave
    (omega (arith, c.loop-level.invariant.count, c.loop-level-test.false, c.loop-level.auto.level-end))
    counted
    (positive count (λ none. eqb-false (vec_len c.loop-level.hashes) 0 (sym c.is_empty-2.ensures ∙ c.if-is_empty-2.false)
    (omega (arith, none, c.len-else-is_empty-2.ensures))))
    c.loop-level.invariant.chosen in
    (placing, sizes, found.0, found.1, found.2)
