-- One more word is hashed, and then the last one.
use Rattle.std.proofs.Common.{◌≡◌, ◌-◌, ◌/◌, ap, ◌∙◌, arith}
use Rattle.hash_block.specs.Bytes.{stored_from}
use Rattle.hash_block.specs.SipHash.{after_words, hash_of, keyed}
use Rattle.hash_block.proofs.HashLemmas.{hash_is, words_more}
use Rattle.hash_block.proofs.NumberLemmas.{below_highest}
use Rattle.hash_block.proofs.strings.hashing.hash_stored.Goals as goal

pub loop-i-init : goal.loop-i-init
unfolding after_words
loop-i-init c = c.keyed-state.ensures

pub loop-i-preserved : goal.loop-i-preserved
loop-i-preserved c =
    words_more (keyed c.args.seed 0) (stored_from c.args.words.now c.args.begin) c.loop-i.i c.loop-i.state c.stored_number.result c.with_word-state.result
    c.loop-i.invariant c.stored_number.ensures.value c.with_word-state.ensures

pub last_word-requires : goal.last_word-requires
last_word-requires c = below_highest c.stored_number-rest.result _ c.stored_number-rest.ensures.bound (omega arith)

pub returns : goal.returns
unfolding hash_of
returns c =
    let string = stored_from c.args.words.now c.args.begin in
    let len = c.args.end - c.args.begin in
    let all : c.loop-i.i ≡ len / 8 = omega (arith, c.loop-i-test.false, c.loop-i.auto.i-end) in
    hash_is c.args.seed 0 string len c.loop-i.state c.stored_number-rest.result c.last_word.result c.with_word.result c.finish.result
    (c.loop-i.invariant ∙ ap (after_words (keyed c.args.seed 0) string) all) c.stored_number-rest.ensures.value c.last_word.ensures c.with_word.ensures
    c.finish.ensures
