-- Two words side by side, shifted, begin with the bits that stand in the first and cross into the second.
use Rattle.std.proofs.Common.{◌≡◌, ℕ, ◌+◌, ◌-◌, ◌*◌, ◌/◌, ◌%◌, ◌^◌, ◌<◌, ◌≤◌, List, get_or, refl, ap, ◌∙◌, ⊎_elim, arith, bit_and, bit_or}
use Rattle.std.proofs.lemmas.Bool.{cases_lt}
use Rattle.std.proofs.lemmas.Nat.{pow_pos, and_mask}
use Rattle.std.proofs.lemmas.Nat.Bits.{bit_at_above, bit_at_or}
use Rattle.std.specs.Int.{bit_at}
use Rattle.bit_lists.proofs.lemmas.NumberLemmas.{number_at_is}
use Rattle.bit_lists.proofs.lemmas.WordLemmas.{bit_at-shr, bit_at-mod, bit_at-shl_below, bit_at-shl}
use Rattle.bit_lists.specs.Bits.{bits_of}
use Rattle.bit_lists.specs.Number.{number_at, IsInRange}

pub number_at_joined : (words : List ℕ) (s n t : ℕ) → IsInRange words s n → n ≤ 64 → (64 < s % 64 + n → t ≡ s / 64 + 1) → get_or words (s / 64) 0 < 2 ^ 64
    → bit_and (bit_and (bit_or (get_or words (s / 64) 0) (get_or words t 0 * 2 ^ 64 % 2 ^ 128) / 2 ^ (s % 64)) (2 ^ 64 - 1)) (2 ^ n - 1) ≡ number_at (bits_of words) s n
number_at_joined words s n t h small second fits =
    ap (λ x. bit_and x (2 ^ n - 1)) (and_mask (both / 2 ^ r) 64)
    ∙ and_mask (both / 2 ^ r % 2 ^ 64) n
    ∙ number_at_is words s n (both / 2 ^ r % 2 ^ 64 % 2 ^ n) h.1 (omega (arith, pow_pos n))
    (λ k q j l e less.
    bit_at-mod (both / 2 ^ r % 2 ^ 64) n k l
    ∙ bit_at-mod (both / 2 ^ r) 64 k (omega arith)
    ∙ bit_at-shr both r k (r + k) refl
    ∙ ⊎_elim
    (λ in_first.
    let same : s / 64 ≡ q = omega arith in
    let position : r + k ≡ j = omega arith in
    let none : bit_at high (r + k) ≡ 0 = bit_at-shl_below second_word 64 128 (r + k) (omega arith) in_first in
    let is : bit_at both (r + k) ≡ bit_at first_word (r + k) = omega (arith, bit_at_or first_word high (r + k), none) in
    is ∙ ap (bit_at first_word) position ∙ ap (λ a. bit_at (get_or words a 0) j) same)
    (λ in_second.
    let same : t ≡ q = omega (arith, second (omega arith)) in
    let none : bit_at first_word (r + k) ≡ 0 = bit_at_above first_word 64 (r + k) fits in_second in
    let next : bit_at high (r + k) ≡ bit_at second_word j = bit_at-shl second_word 64 128 (r + k) j (omega arith) (omega arith) in
    let is : bit_at both (r + k) ≡ bit_at second_word j = omega (arith, bit_at_or first_word high (r + k), none, next) in
    is ∙ ap (λ a. bit_at (get_or words a 0) j) same)
    (cases_lt (r + k) 64))
  where
    r : ℕ
    r = s % 64

    first_word : ℕ
    first_word = get_or words (s / 64) 0

    second_word : ℕ
    second_word = get_or words t 0

    high : ℕ
    high = second_word * 2 ^ 64 % 2 ^ 128

    both : ℕ
    both = bit_or first_word high
