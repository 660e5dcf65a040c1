-- Hashes fall by the seeds of the level alone as by those of all words.
use Rattle.std.proofs.Common.{◌≡◌, ◌∙◌, ◌≤◌, length, arith}
use Rattle.bit_lists.specs.Bits.{bits_of}
use Rattle.perfect_hash.proofs.lemmas.SeededLemmas.{left_of-alone, IsLevel-alone}
use Rattle.perfect_hash.proofs.seeds.split_level_seeded.Goals as goal

pub returns-clause-level : goal.returns-clause-level
returns-clause-level c all first stand =
    let size = length c.args.ones.now in
    let same : length c.clear-2.new.words ≡ size = omega (arith, c.clear-2.auto.words) in
    let enough : size ≤ length c.choose_in.new.seeds = omega (arith, c.requires.seeds, c.choose_in.auto.seeds) in
    IsLevel-alone all first c.choose_in.new.seeds c.args.hashes.now (bits_of c.split_level_by.new.ones) c.args.level (length c.clear-2.new.words) size
    stand same c.requires.some enough c.split_level_by.ensures.level

pub returns-clause-left : goal.returns-clause-left
returns-clause-left c all first stand =
    let size = length c.args.ones.now in
    let same : length c.clear-2.new.words ≡ size = omega (arith, c.clear-2.auto.words) in
    let enough : size ≤ length c.choose_in.new.seeds = omega (arith, c.requires.seeds, c.choose_in.auto.seeds) in
    c.split_level_by.ensures.left
    ∙ left_of-alone all first c.choose_in.new.seeds c.args.hashes.now (bits_of c.split_level_by.new.ones) c.args.level (length c.clear-2.new.words) size
    stand same c.requires.some enough
