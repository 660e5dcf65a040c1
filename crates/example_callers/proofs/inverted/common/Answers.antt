-- What lies between the number and the next that the other list has stands in one list alone.
use Rattle.std.proofs.Common.{length, arith}
use Rattle.example_callers.proofs.lemmas.InvertedLemmas.{AreCommonTo-all, passed-to, shared-at}
use Rattle.example_callers.proofs.inverted.common.Goals as goal

-- the other list has no number from there on
pub returns-then-there-len : goal.returns-then-there-len
returns-then-there-len c =
    let xs = c.args.one.now.items in
    AreCommonTo-all xs c.args.other.now.items (length xs) c.loop-at.found.items
    (passed-to xs c.args.other.now.items c.loop-at.found.items c.loop-at.at c.position_from-there.result (length xs) c.get-number.result
    c.numbers_rise.ensures.rising c.numbers_rise-2.ensures.rising c.loop-at.invariant c.get-number.ensures c.position_from-there.ensures.less
    (omega arith) (λ k before within. absurd (omega (arith, c.len-in-loop-at.ensures.count, c.if-there-len.true))))
    (omega arith)

pub returns : goal.returns
returns c =
    AreCommonTo-all c.args.one.now.items c.args.other.now.items c.loop-at.at c.loop-at.found.items c.loop-at.invariant
    (omega (arith, c.len.ensures.count, c.loop-at-test.false))

-- the number stands in both
pub loop-at-preserved-then-next-number : goal.loop-at-preserved-then-next-number
loop-at-preserved-then-next-number c =
    shared-at c.args.one.now.items c.args.other.now.items c.loop-at.found.items _ c.loop-at.at c.position_from-there.result c.get-number.result
    c.loop-at.invariant c.get-number.ensures (omega (arith, c.len.ensures.count, c.loop-at-test.true))
    (omega (arith, c.len-in-loop-at.ensures.count, c.if-there-len.false))
    (omega (arith, c.get-next.ensures, c.if-next-number.true)) c.in_ok-push.ensures.items

-- and else nothing before the next number does
pub loop-at-preserved : goal.loop-at-preserved
loop-at-preserved c =
    passed-to c.args.one.now.items c.args.other.now.items c.loop-at.found.items c.loop-at.at c.position_from-there.result c.position_from-at.result
    c.get-number.result c.numbers_rise.ensures.rising c.numbers_rise-2.ensures.rising c.loop-at.invariant c.get-number.ensures
    c.position_from-there.ensures.less c.position_from-at.ensures.bound
    (λ k before within. omega (arith, c.position_from-at.ensures.less k before, c.get-next.ensures))
