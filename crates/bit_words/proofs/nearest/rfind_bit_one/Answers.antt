-- The search for the last one, which ends before the first word.
use Rattle.std.proofs.Common.{rules, ◌-◌, ◌/◌, ◌^◌, ◌<◌, get_or, arith}
use Rattle.bit_words.proofs.lemmas.FindBackLemmas.{IsRestTo-start, IsRestTo-next, none_before, last_left}
use Rattle.bit_words.proofs.nearest.rfind_bit_one.Goals as goal

pub loop-rest-init : goal.loop-rest-init
loop-rest-init c =
    let fits : get_or c.args.words.now (c.args.start / 64) 0 < 2 ^ 64 = search rules in
    record {
      left = IsRestTo-start c.args.words.now c.args.start _ (omega (arith, c.requires.inside)) fits c.n_lowest_bits_1_64.ensures;
      near = omega arith;
    }

pub loop-rest-preserved : goal.loop-rest-preserved
loop-rest-preserved c =
    let words = c.args.words.now in
    let h = c.loop-rest.invariant in
    let fits : get_or words (c.loop-rest.word_index - 1) 0 < 2 ^ 64 = search rules in
    let later : 0 < c.loop-rest.word_index = omega (arith, c.if-word_index-eq0.false) in
    record { left = IsRestTo-next words c.args.start _ _ h.left c.loop-rest-test.true later h.near fits; near = omega (arith, h.near) }

pub returns-then-word_index-eq0 : goal.returns-then-word_index-eq0
returns-then-word_index-eq0 c =
    none_before c.args.words.now c.args.start _ _ c.loop-rest.invariant.left c.loop-rest-test.true c.if-word_index-eq0.true

pub returns : goal.returns
returns c = last_left c.args.words.now c.args.start _ _ c.loop-rest.invariant.left (omega (arith, c.loop-rest-test.false))
