-- The position that is selected is that of the item's one, and each item has one.
use Rattle.std.proofs.Common.{◌<◌, length, arith}
use Rattle.elias_fano.proofs.lemmas.UpperLemmas.{ones_are}
use Rattle.elias_fano.proofs.searching.item_by.Goals as goal

pub returns-in-Found-clause-answer : goal.returns-in-Found-clause-answer
returns-in-Found-clause-answer g c = λ xs h f.
    let inside : c.args.at < length xs = omega (arith, c.if-at-n.false, h.are.count) in (
      inside,
      c.item_at_one.ensures.item xs c.args.n _
          record { parts = h.are; inside = omega (arith, c.if-at-n.false); one = c.in-Found.ensures.answer h.tables f },
    )

pub returns-in-Absent-clause-answer : goal.returns-in-Absent-clause-answer
returns-in-Absent-clause-answer g c = λ xs h f.
    omega (
      arith,
      c.if-at-n.false,
      h.are.count,
      c.in-Absent.ensures.answer h.tables f,
      ones_are xs c.args.low.now.width _ h.are.upper_is,
    )
