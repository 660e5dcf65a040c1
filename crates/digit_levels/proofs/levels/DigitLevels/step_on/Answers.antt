-- The digit is the item's, and it moves behind the lesser digits and those before it with the same one.
use Rattle.std.proofs.Common.{◌+◌, ◌%◌, ◌^◌, ap, refl, arith}
use Rattle.digits.specs.Tables.{DigitLists}
use Rattle.digits.proofs.lemmas.TableLemmas.{length-digits_in}
use Rattle.digit_levels.proofs.lemmas.LevelLemmas.{level-item-inside, line-digit-few, step-digit, step-position}
use Rattle.digit_levels.proofs.levels.DigitLevels.step_on.Goals as goal

pub unreachable-requires : goal.unreachable-requires
unreachable-requires c =
    omega (
      arith,
      c.in_default.ensures.digit,
      length-digits_in c.open_level.new.probe.lists c.open_level.ensures.sizes,
      ap (λ (l : DigitLists). l.len) c.open_level.ensures.level,
      c.requires.inside,
    )

pub lesser_of-requires-clause-digit : goal.lesser_of-requires-clause-digit
lesser_of-requires-clause-digit c =
    line-digit-few c.open_level.new.probe.lists c.args.position c.in-Some.digit c.open_level.ensures.sizes
    (omega (arith, ap (λ (l : DigitLists). l.len) c.open_level.ensures.level, c.requires.inside)) c.in-Some.ensures.digit.1

pub returns-then-next-len-clause-digit : goal.returns-then-next-len-clause-digit
returns-then-next-len-clause-digit c =
    line-digit-few c.open_level.new.probe.lists c.args.position c.in-Some.digit c.open_level.ensures.sizes
    (omega (arith, ap (λ (l : DigitLists). l.len) c.open_level.ensures.level, c.requires.inside)) c.in-Some.ensures.digit.1

pub returns-then-next-len-clause-answer : goal.returns-then-next-len-clause-answer
returns-then-next-len-clause-answer c = λ xs levels.
    let m = c.args.self.now in
    let lists = c.open_level.new.probe.lists in
    let same = c.open_level.ensures.level in
    let few = line-digit-few lists c.args.position c.in-Some.digit c.open_level.ensures.sizes
    (omega (arith, ap (λ (l : DigitLists). l.len) same, c.requires.inside)) c.in-Some.ensures.digit.1 in (
      step-digit xs m levels c.args.depth c.requires.depth lists same c.args.position c.in-Some.digit c.requires.inside c.in-Some.ensures.digit.1,
      step-position xs m levels c.args.depth c.requires.depth lists same c.args.position c.in-Some.digit c.lesser_of.result c.in-Some.rank
          ((c.lesser_of.result + c.in-Some.rank) % 2 ^ 64) few c.lesser_of.ensures c.in-Some.ensures.rank refl
          (omega (arith, c.len.type_inv, c.len.ensures.len)),
    )

pub returns-else-next-len-clause-answer : goal.returns-else-next-len-clause-answer
returns-else-next-len-clause-answer c = λ xs levels.
    let m = c.args.self.now in
    let lists = c.open_level.new.probe.lists in
    let same = c.open_level.ensures.level in
    let few = line-digit-few lists c.args.position c.in-Some.digit c.open_level.ensures.sizes
    (omega (arith, ap (λ (l : DigitLists). l.len) same, c.requires.inside)) c.in-Some.ensures.digit.1 in
    let digit = step-digit xs m levels c.args.depth c.requires.depth lists same c.args.position c.in-Some.digit c.requires.inside c.in-Some.ensures.digit.1 in
    let moved = step-position xs m levels c.args.depth c.requires.depth lists same c.args.position c.in-Some.digit c.lesser_of.result c.in-Some.rank
    ((c.lesser_of.result + c.in-Some.rank) % 2 ^ 64) few c.lesser_of.ensures c.in-Some.ensures.rank refl
    (omega (arith, c.len.type_inv, c.len.ensures.len)) in
    omega (
      arith,
      moved,
      level-item-inside xs m levels c.args.depth c.requires.depth c.in-Some.digit c.args.position c.requires.inside digit,
      c.if-next-len.false,
      c.len.ensures.len,
    )
