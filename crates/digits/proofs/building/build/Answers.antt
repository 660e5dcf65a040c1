-- The digits are written, and the counts do not change them.
use Rattle.std.proofs.Common.{ℕ, List, length, get_or, take, ap, ◌∙◌, arith}
use Rattle.digits.specs.Digits.{digit_from}
use Rattle.digits.proofs.lemmas.PartLemmas.{digits_written, rest_written}
use Rattle.digits.proofs.building.build.Goals as goal

pub returns-clause-digits : goal.returns-clause-digits
returns-clause-digits c =
    let n = length c.args.numbers.now in
    let len = c.write_digits.ensures.len in
    ap (λ (xs : List ℕ). take n xs) c.write_counts.ensures.digits
    ∙ digits_written c.write_digits.new.lines c.args.numbers.now (digit_from c.args.position) (omega (arith, len, c.requires.sizes.lines_len))
    (λ i inside. c.write_digits.ensures.digits i (omega (arith, inside, len)))

pub returns-clause-rest : goal.returns-clause-rest
returns-clause-rest c = λ i past.
    let len = c.write_digits.ensures.len in
    ap (λ (xs : List ℕ). get_or xs i 0) c.write_counts.ensures.digits
    ∙ rest_written c.write_digits.new.lines c.args.numbers.now c.args.position i past
    (λ k inside. c.write_digits.ensures.digits k (omega (arith, inside, len)))
