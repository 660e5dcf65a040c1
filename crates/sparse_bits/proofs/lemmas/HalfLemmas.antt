-- Half of a number has a binary digit less.
use Rattle.std.proofs.Common.{ℕ, ◌+◌, ◌/◌, ◌<◌, ◌≤◌, arith}
use Rattle.bit_lists.proofs.lemmas.DigitLemmas.{digit_count-mono, digit_count_half}
use Rattle.bit_lists.specs.Bits.{digit_count}

pub digit_less : (n m : ℕ) → 0 < n → m ≤ n / 2 → digit_count m + 1 ≤ digit_count n
digit_less n m some half = omega (arith, digit_count_half n some, digit_count-mono m (n / 2) half)
