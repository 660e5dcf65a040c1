-- One number more stands at its position.
use Rattle.std.proofs.Common.{◌≡◌, ◌^◌, ◌<◌, length, get_or, refl, arith}
use Rattle.std.proofs.lemmas.List.Elements.{AllWithin-from_all}
use Rattle.louds.proofs.lemmas.LabelLemmas.{packed_all, packed_more}
use Rattle.louds.proofs.labels.write_numbers.Goals as goal

pub loop-i-preserved : goal.loop-i-preserved
loop-i-preserved c =
    let xs = c.args.numbers.now in
    let width = c.args.width in
    packed_more c.loop-i.words _ xs width c.loop-i.i (get_or xs c.loop-i.i 0) c.loop-i.invariant c.loop-i-test.true refl
    (omega (arith, c.requires.room.tight, c.loop-i.auto.words))
    (AllWithin-from_all (λ x. x < 2 ^ width) xs c.requires.fit c.loop-i.i 0 (omega arith) c.loop-i-test.true)
    c.set_fragment.ensures

pub returns-clause-numbers : goal.returns-clause-numbers
returns-clause-numbers c =
    let all : c.loop-i.i ≡ length c.args.numbers.now = omega (arith, c.loop-i-test.false, c.loop-i.auto.i-end) in
    packed_all c.loop-i.words c.args.numbers.now c.args.width _ all c.loop-i.invariant
