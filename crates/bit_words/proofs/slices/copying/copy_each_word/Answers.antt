-- Each word that is written copies 64 bits more.
use Rattle.std.proofs.Common.{◌≡◌, ℕ, ◌+◌, ◌*◌, ◌≤◌, subst, arith}
use Rattle.bit_lists.proofs.lemmas.BitsLemmas.{length-bits_of}
use Rattle.bit_lists.specs.Bits.{bits_of}
use Rattle.bit_words.specs.Copied.{IsCopied}
use Rattle.bit_words.proofs.lemmas.CopyLemmas.{copied_more}
use Rattle.bit_words.proofs.slices.copying.copy_each_word.Goals as goal

pub loop-done-preserved : goal.loop-done-preserved
loop-done-preserved g c =
    let source = bits_of c.args.from.now in
    let old = bits_of c.args.to.now in
    let s = 64 * c.args.first in
    let t = c.args.from_begin in
    let n = c.loop-done.done in
    let len = length-bits_of c.args.to.now in
    let more : n + 2 ≤ c.args.count = omega (arith, c.loop-done-test.true) in
    let one = copied_more source t old s (64 * n) (bits_of c.loop-done.to) (64 * (c.args.first + n)) (t + 64 * n) 64 (bits_of c.copy_word.new.to)
    c.loop-done.invariant.copied (omega arith) (omega arith) (omega (arith, more, len, c.requires.to_inside)) c.copy_word.ensures in
    let two = copied_more source t old s (64 * n + 64) (bits_of c.copy_word.new.to) (64 * (c.args.first + n + 1)) (t + 64 * (n + 1)) 64 (bits_of c.copy_word-in-loop-done.new.to)
    one (omega arith) (omega arith) (omega (arith, more, len, c.requires.to_inside)) c.copy_word-in-loop-done.ensures in
    let count : 64 * n + 64 + 64 ≡ 64 * (n + 2) = omega arith in
    record { within = more; copied = subst (λ (k : ℕ). IsCopied source t old s k (bits_of c.copy_word-in-loop-done.new.to)) count two }

pub returns-then-done-count : goal.returns-then-done-count
returns-then-done-count g c =
    let source = bits_of c.args.from.now in
    let old = bits_of c.args.to.now in
    let s = 64 * c.args.first in
    let t = c.args.from_begin in
    let n = c.loop-done.done in
    let len = length-bits_of c.args.to.now in
    let one = copied_more source t old s (64 * n) (bits_of c.loop-done.to) (64 * (c.args.first + n)) (t + 64 * n) 64 (bits_of c.copy_word-then-done-count.new.to)
    c.loop-done.invariant.copied (omega arith) (omega arith) (omega (arith, c.if-done-count.true, len, c.requires.to_inside)) c.copy_word-then-done-count.ensures in
    let count : 64 * n + 64 ≡ 64 * c.args.count = omega (arith, c.if-done-count.true, c.loop-done-test.false) in
    subst (λ (k : ℕ). IsCopied source t old s k (bits_of c.copy_word-then-done-count.new.to)) count one
