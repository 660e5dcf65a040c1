-- What is left of the rank after a part, or the digit in the part.
use Rattle.std.proofs.Common.{◌<◌, ◌^◌, arith}
use Rattle.broadword.proofs.Callers.{rank_in_word}
use Rattle.broadword.proofs.lemmas.InWordLemmas.{count_ones-picked, count_ones-picked_too}
use Rattle.digits.proofs.lemmas.PickedLemmas.{part_more, part_picked}
use Rattle.digits.proofs.selecting.position_in_line.Goals as goal

pub select64-requires : goal.select64-requires
select64-requires g c =
    let fits : c.matches_of_part-word.result < 2 ^ 64 = omega arith in
    rank_in_word c.matches_of_part-word.result c.loop-part.left fits c.if-left-ones.true

pub returns-then-left-ones : goal.returns-then-left-ones
returns-then-left-ones g c =
    let e = c.matches_of_part-word.ensures in
    let word = c.matches_of_part-word.result in
    let p = c.select64.result in
    let found =
    part_picked (g.S.DigitSource.lists c.args.source.now).lines c.args.line c.loop-part.part c.args.digit word p c.loop-part.left c.requires.inside
    c.loop-part-test.true (record { bits = e.bits; fits = e.fits }) c.select64.ensures.inside
    (count_ones-picked word c.loop-part.left p c.select64.ensures.picked) (count_ones-picked_too word c.loop-part.left p c.select64.ensures.picked) in
    (found.0, found.1, omega (arith, found.2, c.loop-part.invariant.left))

pub loop-part-preserved : goal.loop-part-preserved
loop-part-preserved g c =
    let e = c.matches_of_part-word.ensures in
    let more =
    part_more (g.S.DigitSource.lists c.args.source.now).lines c.args.line c.loop-part.part c.args.digit c.matches_of_part-word.result c.requires.inside
    c.loop-part-test.true (record { bits = e.bits; fits = e.fits }) in
    record {
      most = omega (arith, c.loop-part.invariant.most);
      left = omega (arith, more, c.loop-part.invariant.left, c.if-left-ones.false);
    }
