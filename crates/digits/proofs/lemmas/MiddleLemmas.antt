-- The digits between a position and the middle of its line are counted, and taken off or added.
use Rattle.std.proofs.Common.{◌≡◌, ℕ, ◌+◌, ◌-◌, ◌*◌, ◌/◌, ◌%◌, ◌^◌, ◌<◌, ◌≤◌, List, length, get_or, min, count_ones, bit_xor, ap, arith, ⊎_elim}
use Rattle.std.proofs.lemmas.Bool.{cases_lt}
use Rattle.std.specs.Int.Bits.{xor_zero_r}
use Rattle.digits.specs.Digits.{digits_of, digits_before}
use Rattle.digits.proofs.lemmas.MaskLemmas.{turned_over}
use Rattle.digits.proofs.lemmas.DigitLemmas.{IsMatched, digits_of_half, digits_before-self}

-- a count that is taken off, or added
taken_off : (middle there count turned : ℕ) → middle < 2 ^ 64 → there + count ≡ middle → turned ≡ 2 ^ 64 - 1
    → (middle + (bit_xor count turned + (2 ^ 64 - turned)) % 2 ^ 64) % 2 ^ 64 ≡ there
taken_off middle there count turned fits sum is = omega (arith, ap (bit_xor count) is, turned_over count (omega arith))

added : (middle there count turned : ℕ) → there < 2 ^ 64 → middle + count ≡ there → turned ≡ 0
    → (middle + (bit_xor count turned + (2 ^ 64 - turned)) % 2 ^ 64) % 2 ^ 64 ≡ there
added middle there count turned fits sum is = omega (arith, ap (bit_xor count) is, xor_zero_r count)

-- r is the number of ones of m below the mask, or above it
abbrev pub Below : ℕ → ℕ → ℕ → ℕ → Type 0
Below m mask turned r = (y : ℕ) → y ≤ 64 → mask ≡ 2 ^ y - 1 → turned ≡ 0 → r ≡ count_ones (m % 2 ^ y)

abbrev pub Above : ℕ → ℕ → ℕ → ℕ → Type 0
Above m mask turned r = (y : ℕ) → y ≤ 64 → mask ≡ 2 ^ y - 1 → turned ≡ 2 ^ 64 - 1 → r + count_ones (m % 2 ^ y) ≡ count_ones (m % 2 ^ 64)

pub middle_found : (words : List ℕ) (k d p m n one two u v : ℕ) → length words < 2 ^ 58 → 8 * k + 8 ≤ length words → p < 224
    → IsMatched (get_or words (8 * k + 4 * (p / 128) + 1) 0) (get_or words (8 * k + 4 * (p / 128) + 2) 0) d m
    → IsMatched (get_or words (8 * k + 4 * (p / 128) + 3) 0) (get_or words (8 * k + 4 + 3 * (p / 128)) 0 / 2 ^ (32 * (p / 128))) d n
    → one ≡ 2 ^ min (p % 128) 64 - 1 → two ≡ 2 ^ (p % 128 - 64) - 1
    → Below m one ((p / 128 + (2 ^ 64 - 1)) % 2 ^ 64) u → Above m one ((p / 128 + (2 ^ 64 - 1)) % 2 ^ 64) u
    → Below n two ((p / 128 + (2 ^ 64 - 1)) % 2 ^ 64) v → Above n two ((p / 128 + (2 ^ 64 - 1)) % 2 ^ 64) v
    → (digits_before d (digits_of words) (224 * k + 128)
    + (bit_xor (u + v) ((p / 128 + (2 ^ 64 - 1)) % 2 ^ 64) + (2 ^ 64 - (p / 128 + (2 ^ 64 - 1)) % 2 ^ 64)) % 2 ^ 64)
    % 2 ^ 64
    ≡ digits_before d (digits_of words) (224 * k + p)
middle_found words k d p m n one two u v short inside near of_m of_n first second m_below m_above n_below n_above =
    let b = digits_of words in
    let half = digits_of_half words k (p / 128) d m n inside (omega (arith, near)) of_m of_n in
    let few_middle = digits_before-self d b (224 * k + 128) in
    let few = digits_before-self d b (224 * k + p) in
    ⊎_elim
    (λ low.
    let turned : (p / 128 + (2 ^ 64 - 1)) % 2 ^ 64 ≡ 2 ^ 64 - 1 = omega arith in
    let to : 224 * k + 128 * (p / 128) + p % 128 ≡ 224 * k + p = omega arith in
    let middle : 224 * k + 128 * (p / 128) + 128 ≡ 224 * k + 128 = omega arith in
    taken_off (digits_before d b (224 * k + 128)) (digits_before d b (224 * k + p)) _ _
    (omega (arith, few_middle, short, inside))
    (omega (
      arith,
      half (p % 128) (omega arith) (omega arith),
      half 128 (omega arith) (omega arith),
      ap (digits_before d b) to,
      ap (digits_before d b) middle,
      m_above _ (omega arith) first turned,
      n_above _ (omega arith) second turned,
    ))
    turned)
    (λ high.
    let turned : (p / 128 + (2 ^ 64 - 1)) % 2 ^ 64 ≡ 0 = omega (arith, near) in
    let to : 224 * k + 128 * (p / 128) + p % 128 ≡ 224 * k + p = omega arith in
    let middle : 224 * k + 128 * (p / 128) ≡ 224 * k + 128 = omega (arith, near) in
    added (digits_before d b (224 * k + 128)) (digits_before d b (224 * k + p)) _ _
    (omega (arith, few, short, inside, near))
    (omega (
      arith,
      half (p % 128) (omega arith) (omega (arith, near)),
      ap (digits_before d b) to,
      ap (digits_before d b) middle,
      m_below _ (omega arith) first turned,
      n_below _ (omega arith) second turned,
    ))
    turned)
    (cases_lt p 128)
