-- The last part of a line has both bits of its digits in one word.
use Rattle.std.proofs.Common.{◌∙◌, arith}
use Rattle.digits.proofs.lemmas.PartLemmas.{last_word}
use Rattle.digits.proofs.building.write_part.Goals as goal

pub returns-else-part-lt3-clause-digits : goal.returns-else-part-lt3-clause-digits
returns-else-part-lt3-clause-digits c = λ y inside position.
    last_word c.args.lines.now c.args.line c.args.part c.bits_of_digits-low.result.0 c.bits_of_digits-low.result.1 y c.requires.inside c.requires.part
    c.if-part-lt3.false position (λ z least most. c.bits_of_digits-low.ensures.low z (omega (arith, c.min-count.ensures, c.if-part-lt3.false)) most)
    ∙ c.bits_of_digits-low.ensures.digits y (omega (arith, c.min-count.ensures))
