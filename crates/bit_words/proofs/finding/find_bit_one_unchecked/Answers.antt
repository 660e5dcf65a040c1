-- The search of `find_bit_one`, where the one that is known bounds the words that are read.
use Rattle.std.proofs.Common.{rules, ◌+◌, ◌/◌, ◌^◌, ◌<◌, length, get_or, refl, arith}
use Rattle.bit_words.proofs.lemmas.FindLemmas.{inside_from_one, IsRestFrom-start, IsRestFrom-next, some_left, first_left}
use Rattle.bit_words.proofs.finding.find_bit_one_unchecked.Goals as goal

pub bounds-words-word_index : goal.bounds-words-word_index
bounds-words-word_index c =
    let known = c.requires.exists in
    omega (arith, known.1, inside_from_one c.args.words.now known.0 known.2)

pub loop-rest-init : goal.loop-rest-init
loop-rest-init c =
    let words = c.args.words.now in
    let known = c.requires.exists in
    let within : c.args.start / 64 < length words = omega (arith, known.1, inside_from_one words known.0 known.2) in
    let fits : get_or words (c.args.start / 64) 0 < 2 ^ 64 = search rules in
    record { left = IsRestFrom-start words c.args.start _ _ within refl fits c.n_lowest_bits.ensures; near = omega arith }

pub bounds-words-word_index-in-loop-rest : goal.bounds-words-word_index-in-loop-rest
bounds-words-word_index-in-loop-rest c =
    let known = c.requires.exists in
    some_left c.args.words.now c.args.start _ _ known.0 c.loop-rest.invariant.left c.loop-rest-test.true known.1 known.2

pub loop-rest-preserved : goal.loop-rest-preserved
loop-rest-preserved c =
    let words = c.args.words.now in
    let known = c.requires.exists in
    let h = c.loop-rest.invariant in
    let none = c.loop-rest-test.true in
    let within = some_left words c.args.start _ _ known.0 h.left none known.1 known.2 in
    let fits : get_or words (c.loop-rest.word_index + 1) 0 < 2 ^ 64 = search rules in
    record { left = IsRestFrom-next words c.args.start _ _ _ h.left none h.near within refl fits; near = omega arith }

pub returns : goal.returns
returns c = first_left c.args.words.now c.args.start _ _ c.loop-rest.invariant.left (omega arith)
