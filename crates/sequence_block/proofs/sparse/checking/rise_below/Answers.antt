-- The last number is the greatest where each is greater than the one before it.
use Rattle.std.proofs.Common.{◌≡◌, ◌-◌, length, get_or, ap, arith}
use Rattle.sequence_block.proofs.CheckLemmas.{positions-by-last, positions-none}
use Rattle.sequence_block.proofs.sparse.checking.rise_below.Goals as goal

pub returns-then-len-eq0 : goal.returns-then-len-eq0
returns-then-len-eq0 c = λ xs h.
    let none : length xs ≡ 0 = omega (arith, h.are.count, c.len.ensures.len, c.if-len-eq0.true) in (
      λ _. positions-none xs c.args.end none,
      λ _. cc,
    )

pub returns-then-last-end : goal.returns-then-last-end
returns-then-last-end c = λ xs h.
    let item = c.in-Found.ensures.answer xs h in (
      λ wrong. cc,
      λ positions. absurd (omega (arith, c.if-last-end.true, item.1, positions.below (length xs - 1) (omega (arith, item.0)))),
    )

pub returns : goal.returns
returns c = λ xs h.
    let item = c.in-Found.ensures.answer xs h in
    let end : c.len-2.result - 1 ≡ length xs - 1 = omega (arith, h.are.count, c.len-2.ensures.len) in
    positions-by-last xs c.args.end (omega (arith, item.0))
    (omega (arith, item.1, c.if-last-end.false, ap (λ k. get_or xs k 0) end)) c.is_strictly_rising.result (c.is_strictly_rising.ensures xs h)
