-- Two words side by side begin with the low bits.
use Rattle.std.proofs.Common.{◌≡◌, ◌+◌, ◌-◌, ◌*◌, ◌/◌, ◌%◌, ◌^◌, ◌<◌, length, get_or, sym, ap, ◌∙◌, bit_and, arith}
use Rattle.std.proofs.Math.Nat.{mul-le-mul_left}
use Rattle.bit_lists.specs.Bits.{bits_of}
use Rattle.bit_lists.proofs.lemmas.BesideLemmas.{number_at-none}
use Rattle.bit_lists.proofs.lemmas.BitsLemmas.{length-bits_of}
use Rattle.bit_lists.proofs.lemmas.NumberLemmas.{number_at-lt}
use Rattle.bit_words.proofs.lemmas.JoinLemmas.{number_at_joined}
use Rattle.bit_lists.specs.Number.{number_at}
use Rattle.elias_fano_view.proofs.rising.low_bits.Goals as goal

pub overflow_mul-begin : goal.overflow_mul-begin
overflow_mul-begin c = record { fits = omega (arith, mul-le-mul_left c.args.at c.requires.width, c.requires.short) }

pub returns-then-width-eq0-clause-value : goal.returns-then-width-eq0-clause-value
returns-then-width-eq0-clause-value c =
    let low = bits_of c.args.low.now in
    let s = c.args.at * c.args.width in
    sym (ap (number_at low s) c.if-width-eq0.true ∙ number_at-none low s)

pub returns-clause-value : goal.returns-clause-value
returns-clause-value c =
    let low = c.args.low.now in
    let s = c.args.at * c.args.width in
    let n = c.args.width in
    let fits : get_or low (s / 64) 0 < 2 ^ 64 = (c.type_inv.low (s / 64)).fits in
    let across : 64 < s % 64 + n → (s + n - 1) / 64 ≡ s / 64 + 1 = λ more. omega (arith, c.requires.width) in
    let some : s < 64 * length low = omega (arith, c.requires.inside, c.if-width-eq0.false) in
    ap (bit_and _) c.n_lowest_bits.ensures
    ∙ number_at_joined low s n ((s + n - 1) / 64) (some, c.requires.inside) (omega (arith, c.requires.width)) across fits

pub returns-clause-bound : goal.returns-clause-bound
returns-clause-bound c =
    let low = c.args.low.now in
    let s = c.args.at * c.args.width in
    omega (arith, returns-clause-value c, number_at-lt (bits_of low) s c.args.width (omega (arith, length-bits_of low, c.requires.inside)))
