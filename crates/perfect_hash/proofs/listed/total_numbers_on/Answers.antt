-- The levels that are within the words are all of them, or the sizes are not those of levels.
use Rattle.std.proofs.Common.{◌≡◌, ◌≢◌, ◌-◌, ◌^◌, ℕ, length, slice_index, take, subst, arith}
use Rattle.std.proofs.lemmas.List.{length-take-le}
use Rattle.perfect_hash.specs.Placed.{FitIn}
use Rattle.perfect_hash.proofs.lemmas.ListedLemmas.{inside_words, number_claimed}
use Rattle.perfect_hash.proofs.listed.total_numbers_on.Goals as goal
use Rattle.perfect_hash.proofs.listed.total_numbers_on.Goals.{then-levels-sizes, else-levels-sizes}

pub number_each_on-requires-clause-sizes : goal.number_each_on-requires-clause-sizes
number_each_on-requires-clause-sizes g c =
    let levels = c.levels_within-levels.result in
    let sizes = c.args.sizes.now in
    inside_words (g.T.TableSource.lists c.args.source.now) (take levels sizes) c.requires.sized
    (subst (λ (n : ℕ). FitIn n (take levels sizes)) c.words_len.ensures c.levels_within-levels.ensures.within)
    (omega (arith, c.requires.few, c.levels_within-levels.ensures.few, length-take-le levels sizes c.levels_within-levels.ensures.few))

pub returns-clause-numbers : goal.returns-clause-numbers
returns-clause-numbers g c = λ k less.
    let levels = c.levels_within-levels.result in
    let sizes = c.args.sizes.now in
    let lists = g.T.TableSource.lists c.args.source.now in
    let absent = c.if-levels-sizes.absent in
    let words_are = c.words_len.ensures in
    let none : levels ≡ length sizes → absent ≡ 2 ^ 64 - 1 =
    λ all. elim c.if-levels-sizes.branch [
      | then-levels-sizes w ↦ w.absent-is
      | else-levels-sizes w ↦ absurd (w.if-levels-sizes.false all)
    ] in
    let wrong : levels ≢ length sizes → absent ≡ 2 ^ 64 - 2 =
    λ part. elim c.if-levels-sizes.branch [
      | then-levels-sizes w ↦ absurd (part w.if-levels-sizes.true)
      | else-levels-sizes w ↦ w.absent-is
    ] in
    number_claimed (g.P.Placing.fall c.args.placing.now) sizes c.args.count lists (slice_index c.args.hashes.now k) (slice_index c.number_each_on.new.numbers k)
    c.requires.count levels absent
    (subst (λ (n : ℕ). FitIn n sizes → levels ≡ length sizes) words_are c.levels_within-levels.ensures.all)
    (subst (λ (n : ℕ). FitIn n (take levels sizes)) words_are c.levels_within-levels.ensures.within)
    none wrong (c.number_each_on.ensures.coded k less)
