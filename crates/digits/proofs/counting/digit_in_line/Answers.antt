-- The four words of matches have the ones of the line's four parts, of which the last has 32 letters.
use Rattle.std.proofs.Common.{ap, arith, count_ones, mod-eq_of_lt}
use Rattle.std.specs.Int.Bits.{and_mask}
use Rattle.digits.proofs.lemmas.DigitLemmas.{digits_of_line}
use Rattle.digits.proofs.counting.digit_in_line.Goals as goal

pub returns-clause-middle : goal.returns-clause-middle
returns-clause-middle c =
    let line = digits_of_line c.args.lines.now c.args.line c.args.digit c.matches-one.result c.matches-two.result c.matches-three.result c.matches-four.result c.requires.inside c.matches-one.ensures c.matches-two.ensures c.matches-three.ensures c.matches-four.ensures in
    omega (
      arith,
      line.0,
      ap count_ones (mod-eq_of_lt c.matches-one.type_inv),
      ap count_ones (mod-eq_of_lt c.matches-two.type_inv),
    )

pub returns-clause-all : goal.returns-clause-all
returns-clause-all c =
    let line = digits_of_line c.args.lines.now c.args.line c.args.digit c.matches-one.result c.matches-two.result c.matches-three.result c.matches-four.result c.requires.inside c.matches-one.ensures c.matches-two.ensures c.matches-three.ensures c.matches-four.ensures in
    omega (
      arith,
      line.0,
      line.1,
      ap count_ones (mod-eq_of_lt c.matches-one.type_inv),
      ap count_ones (mod-eq_of_lt c.matches-two.type_inv),
      ap count_ones (mod-eq_of_lt c.matches-three.type_inv),
      ap count_ones (and_mask c.matches-four.result 32),
    )
