-- One more slot has its item.
use Rattle.std.proofs.Common.{◌≡◌, ◌+◌, ap, arith}
use Rattle.bit_lists.specs.Bits.{bits_of}
use Rattle.bit_lists.specs.Count.{ones_before}
use Rattle.bit_lists.proofs.lemmas.CountLemmas.{ones_before_none}
use Rattle.hash_buckets.specs.Free.{AreTaken}
use Rattle.hash_buckets.proofs.lemmas.FreeLemmas.{filled-all, filled-more, filled-none}
use Rattle.hash_buckets.proofs.filling.write_free.Goals as goal

pub loop-i-init : goal.loop-i-init
loop-i-init c =
    let b = bits_of c.args.used.now in
    let n = c.args.keys in
    let e : n + 0 ≡ n = omega arith in
    let taken : AreTaken b n 0 0 = omega (arith, ones_before_none b, ap (ones_before b) e) in
    filled-none b n c.args.free.now c.requires.some taken

pub next_free-next-requires-clause-order : goal.next_free-next-requires-clause-order
next_free-next-requires-clause-order c = c.loop-i.invariant.order

pub next_free-next-requires-clause-below : goal.next_free-next-requires-clause-below
next_free-next-requires-clause-below c = c.loop-i.invariant.below_last

pub next_free-next-requires-clause-within : goal.next_free-next-requires-clause-within
next_free-next-requires-clause-within c = c.loop-i.invariant.within

pub next_free-next-requires-clause-taken : goal.next_free-next-requires-clause-taken
next_free-next-requires-clause-taken c = c.loop-i.invariant.taken

pub loop-i-preserved : goal.loop-i-preserved
loop-i-preserved c =
    let l = c.loop-i in
    filled-more (bits_of c.args.used.now) c.args.keys l.free l.i l.last l.at c.next_free-next.result.slot c.next_free-next.result.at
    (omega (arith, c.loop-i-test.true, l.auto.free)) l.invariant c.next_free-next.ensures

pub returns : goal.returns
returns c =
    let l = c.loop-i in
    filled-all (bits_of c.args.used.now) c.args.keys l.free l.i l.last l.at (omega (arith, c.loop-i-test.false, l.auto.free)) l.invariant
