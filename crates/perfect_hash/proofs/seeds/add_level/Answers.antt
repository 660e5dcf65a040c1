-- The words and the seeds of the level are written where those of all levels have them.
use Rattle.std.proofs.Common.{◌≡◌, ◌+◌, ◌-◌, ℕ, List, ◌≤◌, length, length-drop, min, take, drop, sym, subst, arith}
use Rattle.std.proofs.lemmas.List.{length-take-le}
use Rattle.perfect_hash.specs.Seeds.{AreBestSeeds}
use Rattle.perfect_hash.proofs.lemmas.SeededLemmas.{left_of-written, written_is, IsLevel-written}
use Rattle.perfect_hash.proofs.seeds.add_level.Goals as goal

pub returns-clause-level : goal.returns-clause-level
returns-clause-level c =
    let a = c.args in
    let made = c.split_level_seeded in
    let k = a.used + a.size - a.used in
    let words_long : length (take k (drop a.used a.words.now)) ≡ a.size =
    omega (arith, length-take-le k (drop a.used a.words.now) (omega (arith, c.requires.inside, length-drop a.used a.words.now))) in
    let seeds_long : length (take k (drop a.used a.seeds.now)) ≡ a.size =
    omega (arith, length-take-le k (drop a.used a.seeds.now) (omega (arith, c.requires.inside, c.requires.seeds, length-drop a.used a.seeds.now))) in
    IsLevel-written a.words.now made.new.ones a.seeds.now made.new.seeds (take a.left a.hashes.now) a.level a.used a.size k
    (length (take k (drop a.used a.words.now)))
    (omega (arith, c.requires.inside)) (omega (arith, c.requires.inside, c.requires.seeds))
    (omega (arith, made.auto.ones, words_long)) (omega (arith, made.auto.seeds, seeds_long)) words_long made.ensures.level

pub returns-clause-left : goal.returns-clause-left
returns-clause-left c =
    let a = c.args in
    let made = c.split_level_seeded in
    let k = a.used + a.size - a.used in
    let words_long : length (take k (drop a.used a.words.now)) ≡ a.size =
    omega (arith, length-take-le k (drop a.used a.words.now) (omega (arith, c.requires.inside, length-drop a.used a.words.now))) in
    let seeds_long : length (take k (drop a.used a.seeds.now)) ≡ a.size =
    omega (arith, length-take-le k (drop a.used a.seeds.now) (omega (arith, c.requires.inside, c.requires.seeds, length-drop a.used a.seeds.now))) in
    left_of-written a.words.now made.new.ones a.seeds.now made.new.seeds (take a.left a.hashes.now) a.level a.used a.size k
    (length (take k (drop a.used a.words.now)))
    (omega (arith, c.requires.inside)) (omega (arith, c.requires.inside, c.requires.seeds))
    (omega (arith, made.auto.ones, words_long)) (omega (arith, made.auto.seeds, seeds_long)) words_long
    made.new.hashes (drop a.left a.hashes.now) made.result (omega (arith, made.ensures.few, made.auto.hashes)) made.ensures.left

pub returns-clause-best : goal.returns-clause-best
returns-clause-best c =
    let a = c.args in
    let made = c.split_level_seeded in
    let k = a.used + a.size - a.used in
    let inside : a.used ≤ length a.seeds.now = omega (arith, c.requires.inside, c.requires.seeds) in
    let long : length made.new.seeds ≡ a.size =
    omega (arith, made.auto.seeds, length-take-le k (drop a.used a.seeds.now) (omega (arith, c.requires.inside, c.requires.seeds, length-drop a.used a.seeds.now))) in
    subst (AreBestSeeds a.level (take a.left a.hashes.now) (min a.tries 256)) (sym (written_is a.seeds.now made.new.seeds a.used a.size k inside long))
    made.ensures.best
