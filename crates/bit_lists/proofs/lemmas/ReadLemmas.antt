-- What the code reads from one or two words is the number that stands there.
use Rattle.std.proofs.Common.{◌≡◌, ℕ, ◌+◌, ◌-◌, ◌*◌, ◌/◌, ◌%◌, ◌^◌, ◌<◌, ◌≤◌, List, length, get_or, sym, ap, ◌∙◌, ⊎_elim, arith, leb, bit_and, bit_or, le-leb}
use Rattle.std.proofs.lemmas.Bool.{cases_lt, lt-leb, cond-true, cond-false}
use Rattle.std.proofs.lemmas.Nat.{pow_pos, shr_below, and_mask, or_lt, pow-add}
use Rattle.std.proofs.lemmas.Nat.Bits.{same_from_bits_below, bit_at_above, bit_at_or}
use Rattle.std.specs.Int.{bit_at}
use Rattle.bit_lists.proofs.lemmas.BitsLemmas.{length-bits_of}
use Rattle.bit_lists.proofs.lemmas.NumberLemmas.{number_at-lt, bit_at-number_at, number_at_is}
use Rattle.bit_lists.proofs.lemmas.WordLemmas.{bit_at-shr, bit_at-mod, bit_at-shl_below, bit_at-shl}
use Rattle.bit_lists.specs.Bits.{bits_of}
use Rattle.bit_lists.specs.Number.{number_at, IsInRange}
use Rattle.bit_lists.specs.Window.{reach_of}

-- ---- reads

pub reach_of_inside : (s n : ℕ) → s % 64 + n ≤ 64 → reach_of s n ≡ 64 - s % 64
reach_of_inside s n l = cond-true (leb (s % 64 + n) 64) (64 - s % 64) 64 (le-leb (s % 64 + n) 64 l)

pub reach_of_across : (s n : ℕ) → 64 < s % 64 + n → reach_of s n ≡ 64
reach_of_across s n l = cond-false (leb (s % 64 + n) 64) (64 - s % 64) 64 (lt-leb (s % 64 + n) 64 l)

-- a range that is in range reaches as far as n at least, and not past the content
pub reach_of_room : (words : List ℕ) (s n : ℕ) → IsInRange words s n → n ≤ 64 → (n ≤ reach_of s n) × (s + reach_of s n ≤ 64 * length words)
reach_of_room words s n h small =
    ⊎_elim
    (λ across. let e = reach_of_across s n across in (omega arith, omega arith))
    (λ inside. let e = reach_of_inside s n inside in (omega arith, omega arith))
    (cases_lt 64 (s % 64 + n))

-- `low >> offset`, where one word has the range
pub number_at_within : (words : List ℕ) (s n : ℕ) → IsInRange words s n → s % 64 + n ≤ 64 → get_or words (s / 64) 0 < 2 ^ 64
    → get_or words (s / 64) 0 / 2 ^ (s % 64) ≡ number_at (bits_of words) s (reach_of s n)
number_at_within words s n h inside fits =
    let r = s % 64 in
    let word = get_or words (s / 64) 0 in
    let whole : 64 - r + r ≡ 64 = omega arith in
    let bound : word < 2 ^ (64 - r + r) = omega (arith, ap (λ k. 2 ^ k) whole) in
    number_at_is words s (64 - r) (word / 2 ^ r) (omega arith) (shr_below word (64 - r) r bound)
    (λ k q j l e low.
    let same : s / 64 ≡ q = omega arith in
    bit_at-shr word r k j (omega arith) ∙ ap (λ a. bit_at (get_or words a 0) j) same)
    ∙ ap (number_at (bits_of words) s) (sym (reach_of_inside s n inside))

-- `low >> offset | high << (64 - offset)`, where two words have it
pub number_at_across : (words : List ℕ) (s n : ℕ) → IsInRange words s n → 64 < s % 64 + n → n ≤ 64 → get_or words (s / 64) 0 < 2 ^ 64
    → bit_or (get_or words (s / 64) 0 / 2 ^ (s % 64)) (get_or words (s / 64 + 1) 0 * 2 ^ (64 - s % 64) % 2 ^ 64) ≡ number_at (bits_of words) s (reach_of s n)
number_at_across words s n h across small fits =
    let r = s % 64 in
    let low_word = get_or words (s / 64) 0 in
    let high_word = get_or words (s / 64 + 1) 0 in
    let low = low_word / 2 ^ r in
    let high = high_word * 2 ^ (64 - r) % 2 ^ 64 in
    let low_fits : low < 2 ^ 64 = shr_below low_word 64 r (omega (arith, pow_mono' r)) in
    number_at_is words s 64 (bit_or low high) (omega arith) (or_lt 64 low high low_fits (omega arith))
    (λ k q j l e small_j.
    ⊎_elim
    (λ below.
    let same : s / 64 ≡ q = omega arith in
    let at_low : bit_at low k ≡ bit_at low_word j = bit_at-shr low_word r k j (omega arith) in
    let at_high : bit_at high k ≡ 0 = bit_at-shl_below high_word (64 - r) 64 k l below in
    let is : bit_at (bit_or low high) k ≡ bit_at low_word j = omega (arith, bit_at_or low high k, at_low, at_high) in
    is ∙ ap (λ a. bit_at (get_or words a 0) j) same)
    (λ from.
    let same : s / 64 + 1 ≡ q = omega arith in
    let at_low : bit_at low k ≡ 0 = bit_at-shr low_word r k (r + k) (omega arith) ∙ bit_at_above low_word 64 (r + k) fits (omega arith) in
    let at_high : bit_at high k ≡ bit_at high_word j = bit_at-shl high_word (64 - r) 64 k j l (omega arith) in
    let is : bit_at (bit_or low high) k ≡ bit_at high_word j = omega (arith, bit_at_or low high k, at_low, at_high) in
    is ∙ ap (λ a. bit_at (get_or words a 0) j) same)
    (cases_lt k (64 - r)))
    ∙ ap (number_at (bits_of words) s) (sym (reach_of_across s n across))
  where
    pow_mono' : (r : ℕ) → 2 ^ 64 ≤ 2 ^ (64 + r)
    pow_mono' r = omega (arith, pow-add 2 64 r, pow_pos r)

-- `wide & mask`
pub number_at_masked : (words : List ℕ) (s m n : ℕ) → n ≤ m → s + n ≤ 64 * length words → bit_and (number_at (bits_of words) s m) (2 ^ n - 1) ≡ number_at (bits_of words) s n
number_at_masked words s m n l within =
    and_mask (number_at (bits_of words) s m) n
    ∙ same_from_bits_below n (number_at (bits_of words) s m % 2 ^ n) (number_at (bits_of words) s n)
    (omega (arith, pow_pos n))
    (number_at-lt (bits_of words) s n (omega (arith, length-bits_of words)))
    (λ k small. bit_at-mod (number_at (bits_of words) s m) n k small ∙ bit_at-number_at (bits_of words) s m k (omega arith) ∙ sym (bit_at-number_at (bits_of words) s n k small))
