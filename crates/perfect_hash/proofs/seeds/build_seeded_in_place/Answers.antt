-- Each level that is made leaves the hashes in front; where none is left, they are numbered.
use Rattle.std.proofs.Common.{◌≡◌, ◌+◌, ◌<◌, ◌≤◌, ℕ, length, min, subst, arith}
use Rattle.std.proofs.lemmas.List.{length-take-le}
use Rattle.perfect_hash.specs.Positions.{words_for}
use Rattle.perfect_hash.proofs.lemmas.SeededLemmas.{built_levels, built_more, built_ones, IsBuilt}
use Rattle.perfect_hash.proofs.seeds.build_seeded_in_place.Goals as goal

pub returns-then-left-eq0-clause-numbers : goal.returns-then-left-eq0-clause-numbers
returns-then-left-eq0-clause-numbers c = λ none.
    let l = c.loop-level in
    let most : l.level ≤ min (length c.args.sizes.now) 256 = omega (arith, c.loop-level-test.true, l.auto.level-end, c.min-most.ensures) in
    built_levels c.args.percent c.args.tries c.args.hashes.now l.sizes l.words l.seeds l.hashes l.level l.used l.left l.invariant.built none
    (omega (arith, most, l.auto.sizes, length-take-le l.level l.sizes (omega (arith, most, l.auto.sizes))))
    (omega (arith, c.requires.short, l.auto.words, l.invariant.within, length-take-le l.used l.words l.invariant.within))

pub returns-then-left-eq0-clause-ones : goal.returns-then-left-eq0-clause-ones
returns-then-left-eq0-clause-ones c = λ none.
    let l = c.loop-level in
    built_ones c.args.percent c.args.tries c.args.hashes.now l.sizes l.words l.seeds l.hashes l.level l.used l.left l.invariant.built none

pub loop-level-preserved : goal.loop-level-preserved
loop-level-preserved c =
    let l = c.loop-level in
    let size = c.level_len-size.result in
    let added = c.add_level-left in
    let some : 0 < size = omega (arith, c.level_len-size.ensures) in
    let inside : l.used + size ≤ length added.new.words = omega (arith, c.if-size-room.false, c.min-room.ensures, added.auto.words, l.invariant.within) in
    let is : size ≡ words_for c.args.percent l.left =
    omega (arith, c.level_len-size.ensures, c.if-size-room.false, c.min-room.ensures, c.requires.short, l.auto.words) in
    record {
      few = omega (arith, added.ensures.few, l.invariant.few, added.auto.hashes);
      within = inside;
      built = built_more c.args.percent c.args.tries c.args.hashes.now l.hashes added.new.hashes l.words added.new.words l.seeds added.new.seeds l.sizes
          l.level l.used size l.left added.result l.invariant.built
          (omega (arith, c.loop-level-test.true, l.auto.level-end, l.auto.sizes, c.min-most.ensures)) l.invariant.within inside
          (omega (arith, inside, added.auto.words, added.auto.seeds, l.auto.words, l.auto.seeds, c.requires.seeds))
          added.ensures.before added.ensures.seeds_before some is l.invariant.few added.ensures.level added.ensures.left added.ensures.best;
    }

pub returns-clause-numbers : goal.returns-clause-numbers
returns-clause-numbers c = λ none.
    let l = c.loop-level in
    let n = c.min-most.result in
    let last : l.level ≡ n = omega (arith, c.loop-level-test.false, l.auto.level-end) in
    let all =
    subst (λ (k : ℕ). IsBuilt c.args.percent c.args.tries c.args.hashes.now l.sizes l.words l.seeds l.hashes k l.used l.left) last l.invariant.built in
    built_levels c.args.percent c.args.tries c.args.hashes.now l.sizes l.words l.seeds l.hashes n l.used l.left all none
    (omega (arith, l.auto.sizes, c.min-most.ensures, length-take-le n l.sizes (omega (arith, c.min-most.ensures, l.auto.sizes))))
    (omega (arith, c.requires.short, l.auto.words, l.invariant.within, length-take-le l.used l.words l.invariant.within))

pub returns-clause-ones : goal.returns-clause-ones
returns-clause-ones c = λ none.
    let l = c.loop-level in
    let n = c.min-most.result in
    let last : l.level ≡ n = omega (arith, c.loop-level-test.false, l.auto.level-end) in
    let all =
    subst (λ (k : ℕ). IsBuilt c.args.percent c.args.tries c.args.hashes.now l.sizes l.words l.seeds l.hashes k l.used l.left) last l.invariant.built in
    built_ones c.args.percent c.args.tries c.args.hashes.now l.sizes l.words l.seeds l.hashes n l.used l.left all none
