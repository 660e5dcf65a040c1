-- One more word is hashed, and then the last one.
use Rattle.std.proofs.Common.{◌≡◌, ◌-◌, ◌/◌, ap, ◌∙◌, arith}
use Rattle.hash_block.specs.Bytes.{bytes_from}
use Rattle.hash_block.specs.SipHash.{after_words, keyed}
use Rattle.hash_block.proofs.HashLemmas.{hash_is, words_more}
use Rattle.hash_block.proofs.NumberLemmas.{below_highest}
use Rattle.hash_block.proofs.strings.hashing.keyed_between.Goals as goal

pub loop-i-init : goal.loop-i-init
unfolding after_words
loop-i-init c = c.keyed-state.ensures

pub loop-i-preserved : goal.loop-i-preserved
loop-i-preserved c =
    words_more (keyed c.args.seed c.args.kind) (bytes_from c.args.bytes.now c.args.begin) c.loop-i.i c.loop-i.state c.word_from.result c.with_word-state.result
    c.loop-i.invariant c.word_from.ensures c.with_word-state.ensures

pub last_word-requires : goal.last_word-requires
last_word-requires c = below_highest c.rest_from-rest.result _ c.rest_from-rest.ensures.bound (omega arith)

pub returns : goal.returns
returns c =
    let string = bytes_from c.args.bytes.now c.args.begin in
    let len = c.args.end - c.args.begin in
    let all : c.loop-i.i ≡ len / 8 = omega (arith, c.loop-i-test.false, c.loop-i.auto.i-end) in
    hash_is c.args.seed c.args.kind string len c.loop-i.state c.rest_from-rest.result c.last_word.result c.with_word.result c.finish.result
    (c.loop-i.invariant ∙ ap (after_words (keyed c.args.seed c.args.kind) string) all) c.rest_from-rest.ensures.value c.last_word.ensures c.with_word.ensures
    c.finish.ensures
