-- The search for the last one, where the one that is known keeps it from running out of words.
use Rattle.std.proofs.Common.{rules, ◌-◌, ◌/◌, ◌^◌, ◌<◌, get_or, arith}
use Rattle.bit_words.proofs.lemmas.FindBackLemmas.{IsRestTo-start, IsRestTo-next, some_before, last_left}
use Rattle.bit_words.proofs.finding.rfind_bit_one_unchecked.Goals as goal

pub loop-rest-init : goal.loop-rest-init
loop-rest-init c =
    let fits : get_or c.args.words.now (c.args.start / 64) 0 < 2 ^ 64 = search rules in
    record {
      left = IsRestTo-start c.args.words.now c.args.start _ (omega arith) fits c.n_lowest_bits_1_64.ensures;
      near = omega arith;
    }

pub overflow_sub-word_index : goal.overflow_sub-word_index
overflow_sub-word_index c =
    let known = c.requires.exists in
    some_before c.args.words.now c.args.start _ _ known.0 c.loop-rest.invariant.left c.loop-rest-test.true known.1 known.2

pub loop-rest-smaller : goal.loop-rest-smaller
loop-rest-smaller c =
    let known = c.requires.exists in
    let h = c.loop-rest.invariant in
    omega (arith, some_before c.args.words.now c.args.start _ _ known.0 h.left c.loop-rest-test.true known.1 known.2)

pub loop-rest-preserved : goal.loop-rest-preserved
loop-rest-preserved c =
    let words = c.args.words.now in
    let known = c.requires.exists in
    let h = c.loop-rest.invariant in
    let none = c.loop-rest-test.true in
    let later = some_before words c.args.start _ _ known.0 h.left none known.1 known.2 in
    let fits : get_or words (c.loop-rest.word_index - 1) 0 < 2 ^ 64 = search rules in
    record { left = IsRestTo-next words c.args.start _ _ h.left none later h.near fits; near = omega arith }

pub returns : goal.returns
returns c = last_left c.args.words.now c.args.start _ _ c.loop-rest.invariant.left (omega arith)
