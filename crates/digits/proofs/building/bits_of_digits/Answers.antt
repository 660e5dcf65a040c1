-- One digit more, whose two bits are put above those so far.
use Rattle.std.proofs.Common.{◌≡◌, ℕ, ◌+◌, ◌*◌, ◌/◌, ◌%◌, ◌^◌, ◌<◌, ◌≤◌, get_or, bit_and, bit_or, sym, ap, ap₂, ◌∙◌, arith, ⊎_elim}
use Rattle.std.proofs.lemmas.Bool.{cases_lt}
use Rattle.std.proofs.lemmas.Nat.Bits.{bit_at-zero}
use Rattle.std.specs.Int.Bits.{and_mask}
use Rattle.std.specs.Int.{bit_at}
use Rattle.digits.specs.Digits.{digit_from}
use Rattle.digits.proofs.lemmas.PartLemmas.{or_below, or_at, or_above}
use Rattle.digits.proofs.building.bits_of_digits.Goals as goal

pub loop-at-init : goal.loop-at-init
loop-at-init c =
    record { digits = λ y l. absurd (omega arith); low = λ y l inside. bit_at-zero y; high = λ y l inside. bit_at-zero y }

pub loop-at-preserved : goal.loop-at-preserved
loop-at-preserved c =
    let i = c.loop-at.invariant in
    let at = c.loop-at.at in
    let low = c.loop-at.low in
    let high = c.loop-at.high in
    let d = c.digit_of_number-digit.result in
    let inside : at < 64 = omega (arith, c.loop-at-test.true, c.requires.count) in
    let first : bit_and d 1 ≡ d % 2 = and_mask d 1 in
    let bit : bit_and d 1 < 2 = omega (arith, first) in
    let digit : d < 4 = omega (arith, c.digit_of_number-digit.ensures) in
    let other : d / 2 < 2 = omega (arith, digit) in
    let now =
    ap₂ (λ (x y : ℕ). x + 2 * y) (or_at low (bit_and d 1) at inside bit (i.low at (omega arith) inside))
    (or_at high (d / 2) at inside other (i.high at (omega arith) inside)) in
    record {
      digits = λ y l.
          ⊎_elim
          (λ (before : y < at).
          ap₂ (λ (a b : ℕ). a + 2 * b) (or_below low (bit_and d 1) at y (omega arith) before) (or_below high (d / 2) at y (omega arith) before)
          ∙ i.digits y before)
          (λ (last : at ≤ y).
          let is : y ≡ at = omega arith in
          ap (λ (z : ℕ). bit_at (bit_or low (bit_and d 1 * 2 ^ at % 2 ^ 64)) z + 2 * bit_at (bit_or high (d / 2 * 2 ^ at % 2 ^ 64)) z) is
          ∙ (let whole : bit_and d 1 + 2 * (d / 2) ≡ d = omega (arith, first) in now ∙ whole)
          ∙ c.digit_of_number-digit.ensures
          ∙ sym (ap (λ (z : ℕ). digit_from c.args.position (get_or c.args.numbers.now (c.args.from + z) 0)) is))
          (cases_lt y at);
      low = λ y l within. or_above low (bit_and d 1) at y within (omega arith) bit (i.low y (omega arith) within);
      high = λ y l within. or_above high (d / 2) at y within (omega arith) other (i.high y (omega arith) within);
    }
