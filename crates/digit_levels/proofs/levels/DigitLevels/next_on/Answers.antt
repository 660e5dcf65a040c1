-- The position is after the lesser digits, and after those before it with the same digit.
use Rattle.std.proofs.Common.{◌+◌, ◌%◌, ◌^◌, Some, ap, refl, arith}
use Rattle.digit_levels.proofs.lemmas.LevelLemmas.{level-inside, step-position}
use Rattle.digit_levels.proofs.levels.DigitLevels.next_on.Goals as goal

pub returns-then-next-len-clause-answer : goal.returns-then-next-len-clause-answer
returns-then-next-len-clause-answer c = λ xs levels.
    ap (λ p. Some p)
    (step-position xs c.args.self.now levels c.args.depth c.requires.depth c.open_level.new.probe.lists c.open_level.ensures.level c.args.position
    c.args.digit c.lesser_of.result c.in-Some.rank ((c.lesser_of.result + c.in-Some.rank) % 2 ^ 64) c.requires.digit c.lesser_of.ensures (λ tables. (c.in-Some.ensures.answer tables).1) refl
    (omega (arith, c.len.type_inv, c.len.ensures.len)))

pub returns-else-next-len-clause-answer : goal.returns-else-next-len-clause-answer
returns-else-next-len-clause-answer c = λ xs levels.
    let moved = step-position xs c.args.self.now levels c.args.depth c.requires.depth c.open_level.new.probe.lists c.open_level.ensures.level c.args.position
    c.args.digit c.lesser_of.result c.in-Some.rank ((c.lesser_of.result + c.in-Some.rank) % 2 ^ 64) c.requires.digit c.lesser_of.ensures (λ tables. (c.in-Some.ensures.answer tables).1) refl
    (omega (arith, c.len.type_inv, c.len.ensures.len)) in
    absurd (omega (
      arith,
      moved,
      level-inside xs c.args.self.now levels c.args.depth c.requires.depth c.args.digit c.args.position c.requires.digit,
      c.if-next-len.false,
      c.len.ensures.len,
    ))
