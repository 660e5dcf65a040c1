-- Each write adds a number.
use Rattle.std.proofs.Common.{◌+◌, ◌*◌, ◌<◌, ◌≤◌, length, mul-le-mul_right, arith}
use Rattle.bit_lists.specs.Number.{IsFragmentInRange}
use Rattle.bit_words.proofs.lemmas.FillLemmas.{filled_empty, filled_more, filled_none}
use Rattle.bit_words.proofs.slices.filling.fill.Goals as goal

pub returns-then-width-eq0-clause-numbers : goal.returns-then-width-eq0-clause-numbers
returns-then-width-eq0-clause-numbers c = λ k l. filled_empty c.args.words.now c.args.width c.args.value c.if-width-eq0.true k

pub loop-index-init : goal.loop-index-init
loop-index-init c = filled_none c.args.words.now c.args.width c.args.value

pub loop-index-preserved : goal.loop-index-preserved
loop-index-preserved c =
    let w = c.args.width in
    let n = c.loop-index.index in
    let h = c.loop-index.invariant in
    let words = c.loop-index.words in
    let some : 0 < w = omega (arith, c.if-width-eq0.false) in
    let less : n + 1 ≤ c.args.count = omega (arith, c.loop-index-test.true) in
    let row : (n + 1) * w ≤ c.args.count * w = mul-le-mul_right w less in
    let room : n * w + w ≤ 64 * length c.args.words.now = omega (arith, row, c.requires.inside) in
    let range : IsFragmentInRange words n w =
    (omega (arith, row, c.requires.fits, some), (omega (arith, room, some, h.same_length), omega (arith, room, h.same_length))) in
    let done = c.try_set_fragment_0_64.ensures.done.1 (c.requires.width, range) in
    filled_more c.args.words.now words c.try_set_fragment_0_64.new.words w c.args.value n h room
    (c.try_set_fragment_0_64.ensures.value done) c.try_set_fragment_0_64.auto.words
