-- The 1 bits are counted word by word, and neighbours rise up to the end of each.
use Rattle.std.proofs.Common.{◌≡◌, ◌+◌, ◌*◌, ◌^◌, ◌<◌, length, count_ones, get_or, sym, arith, ℕ, List}
use Rattle.std.proofs.lemmas.Bool.{both_ways, false≢true}
use Rattle.bit_lists.proofs.lemmas.CountLemmas.{ones_before_none}
use Rattle.bit_lists.specs.Bits.{bits_of}
use Rattle.bit_lists.specs.Count.{ones_before}
use Rattle.elias_fano_view.proofs.FollowLemmas.{fragments-fewer}
use Rattle.elias_fano_view.proofs.RiseLemmas.{all-rise, neighbours-more, neighbours-none, neighbours-part, ones-among, ones-few, word-ones}
use Rattle.elias_fano_view.proofs.rising.rise_among.Goals as goal

-- the 1 bits up to the end of word k
next-is : (words : List ℕ) (k ones : ℕ) → k < length words → get_or words k 0 < 2 ^ 64 → ones ≡ ones_before (bits_of words) (64 * k)
    → ones + count_ones (get_or words k 0) ≡ ones_before (bits_of words) (64 * (k + 1))
next-is words k ones inside fits is = omega (arith, is, word-ones words k inside fits)

pub loop-k-init : goal.loop-k-init
loop-k-init c = record {
  count = sym (ones_before_none (bits_of c.args.words.now));
  most = omega arith;
  rise = neighbours-none c.args.gap c.args.width c.args.low.now c.args.words.now 0;
}

pub overflow_add-next : goal.overflow_add-next
overflow_add-next c =
    let words = c.args.words.now in
    let k = c.loop-k.k in
    let next = next-is words k c.loop-k.ones c.loop-k-test.true (c.type_inv.words k).fits c.loop-k.invariant.count in
    record { fits = omega (arith, next, ones-few words (64 * (k + 1)) (omega (arith, c.loop-k-test.true)), c.loop-k-test.true, c.requires.short) }

pub returns-then-next-n : goal.returns-then-next-n
returns-then-next-n c =
    let words = c.args.words.now in
    let k = c.loop-k.k in
    let next = next-is words k c.loop-k.ones c.loop-k-test.true (c.type_inv.words k).fits c.loop-k.invariant.count in (
      λ e. absurd (false≢true e),
      λ h. absurd (omega (arith, h.0, next, c.if-next-n.true, ones-among words (64 * (k + 1)) (omega (arith, c.loop-k-test.true)))),
    )

pub rise_in_word-requires-clause-some : goal.rise_in_word-requires-clause-some
rise_in_word-requires-clause-some c =
    let words = c.args.words.now in
    let k = c.loop-k.k in
    let next = next-is words k c.loop-k.ones c.loop-k-test.true (c.type_inv.words k).fits c.loop-k.invariant.count in
    fragments-fewer c.args.low.now c.args.width c.args.n _ c.requires.some (omega (arith, next, c.if-next-n.false))

pub returns-then-not-rise_in_word : goal.returns-then-not-rise_in_word
returns-then-not-rise_in_word c =
    let k = c.loop-k.k in (
      λ e. absurd (false≢true e),
      λ h. absurd (both_ways c.rise_in_word.result c.if-not-rise_in_word.true
          (c.rise_in_word.ensures.1
          (neighbours-part c.args.gap c.args.width c.args.low.now c.args.words.now 0 (64 * length c.args.words.now) (64 * k) (64 * (k + 1)) (omega arith)
          (omega (arith, c.loop-k-test.true)) h.1))),
    )

pub loop-k-preserved : goal.loop-k-preserved
loop-k-preserved c =
    let words = c.args.words.now in
    let k = c.loop-k.k in
    record {
      count = next-is words k c.loop-k.ones c.loop-k-test.true (c.type_inv.words k).fits c.loop-k.invariant.count;
      most = c.if-next-n.false;
      rise = neighbours-more c.args.gap c.args.width c.args.low.now words 0 (64 * k) (64 * (k + 1)) c.loop-k.invariant.rise
          (c.rise_in_word.ensures.0 c.if-not-rise_in_word.false);
    }

pub returns : goal.returns
returns c =
    all-rise c.args.words.now c.args.gap c.args.width c.args.low.now c.args.n c.loop-k.ones c.loop-k.k
    (omega (arith, c.loop-k-test.false, c.loop-k.auto.k-end)) c.loop-k.invariant.count c.loop-k.invariant.rise
