-- Words whose bits are those of digits, and the ones under a mask of the lowest bits, or above it.
use Rattle.std.proofs.Common.{◌≡◌, ℕ, zero, suc, ◌+◌, ◌-◌, ◌*◌, ◌/◌, ◌%◌, ◌^◌, ◌<◌, ◌≤◌, ◌==◌, sym, refl, ap, ap₂, ◌∙◌, arith, min, bit_and, bit_or, bit_xor, count_ones, ⊎_elim, mod-eq_of_lt}
use Rattle.std.proofs.lemmas.Bool.{cases_lt}
use Rattle.std.proofs.lemmas.Nat.{pow_pos, pow_below, ones_le_self, one_shl, and_le_l, and_comm}
use Rattle.std.specs.Int.Bits.{and_mask, xor_zero_r, xor_add_and, or_zero_l}
use Rattle.std.proofs.lemmas.Nat.Bits.{bit_at-lt, bit_at_and, bit_at_or, bit_at_xor, bit_at_ones, bit_at_ones_above, bit_at-zero, same_from_bits}
use Rattle.std.specs.Int.{bit_at}
use Rattle.bit_lists.proofs.lemmas.WordLemmas.{truth, bit_at-mod, bit_at-mod_above}
use Rattle.bit_lists.proofs.lemmas.CountLemmas.{count_ones_more}

-- where each low digit of c is in exactly one of a and b, the ones add up
pub ones-apart : (a b c k : ℕ) → ((i : ℕ) → i < k → bit_at a i + bit_at b i ≡ bit_at c i)
    → count_ones (a % 2 ^ k) + count_ones (b % 2 ^ k) ≡ count_ones (c % 2 ^ k)
ones-apart a b c zero each =
    let left : a % 1 ≡ 0 = omega arith in
    let right : b % 1 ≡ 0 = omega arith in
    let all : c % 1 ≡ 0 = omega arith in
    omega (arith, ap count_ones left, ap count_ones right, ap count_ones all, ones_le_self 0)
ones-apart a b c (suc k) each =
    let step : suc k ≡ k + 1 = omega arith in
    omega (
      arith,
      ap (λ e. count_ones (a % 2 ^ e)) step,
      ap (λ e. count_ones (b % 2 ^ e)) step,
      ap (λ e. count_ones (c % 2 ^ e)) step,
      count_ones_more a k,
      count_ones_more b k,
      count_ones_more c k,
      each k (omega arith),
      ones-apart a b c k (λ i l. each i (omega arith)),
    )

-- ---- masks

pub ones_below_mask : (w y mask turned : ℕ) → mask ≡ 2 ^ y - 1 → turned ≡ 0
    → count_ones (bit_and w (bit_xor mask turned)) ≡ count_ones (w % 2 ^ y)
ones_below_mask w y mask turned of_mask of_turned =
    ap₂ (λ m t. count_ones (bit_and w (bit_xor m t))) of_mask of_turned
    ∙ ap (λ m. count_ones (bit_and w m)) (xor_zero_r (2 ^ y - 1))
    ∙ ap count_ones (and_mask w y)

pub ones_above_mask : (w y mask turned : ℕ) → w < 2 ^ 64 → y ≤ 64 → mask ≡ 2 ^ y - 1 → turned ≡ 2 ^ 64 - 1
    → count_ones (bit_and w (bit_xor mask turned)) + count_ones (w % 2 ^ y) ≡ count_ones (w % 2 ^ 64)
ones_above_mask w y mask turned fits few of_mask of_turned =
    let a = bit_and w (bit_xor (2 ^ y - 1) (2 ^ 64 - 1)) in
    let small : w % 2 ^ y ≤ w = omega (arith, pow_pos y) in
    let left : a % 2 ^ 64 ≡ a = omega (arith, and_le_l w (bit_xor (2 ^ y - 1) (2 ^ 64 - 1))) in
    let right : w % 2 ^ y % 2 ^ 64 ≡ w % 2 ^ y = omega (arith, small) in
    let same = ap₂ (λ m t. count_ones (bit_and w (bit_xor m t))) of_mask of_turned in
    let sum =
    ones-apart a (w % 2 ^ y) w 64
    (λ i l.
    ⊎_elim
    (λ low.
    omega (
      arith,
      bit_at_and w (bit_xor (2 ^ y - 1) (2 ^ 64 - 1)) i,
      bit_at_xor (2 ^ y - 1) (2 ^ 64 - 1) i,
      bit_at_ones y i low,
      bit_at_ones 64 i l,
      bit_at-mod w y i low,
      bit_at-lt w i,
    ))
    (λ high.
    omega (
      arith,
      bit_at_and w (bit_xor (2 ^ y - 1) (2 ^ 64 - 1)) i,
      bit_at_xor (2 ^ y - 1) (2 ^ 64 - 1) i,
      bit_at_ones_above y i high,
      bit_at_ones 64 i l,
      bit_at-mod_above w y i high,
      bit_at-lt w i,
    ))
    (cases_lt i y)) in
    omega (arith, same, sum, ap count_ones left, ap count_ones right)

-- all 64 digits turned
pub turned_over : (a : ℕ) → a < 2 ^ 64 → bit_xor a (2 ^ 64 - 1) ≡ 2 ^ 64 - 1 - a
turned_over a fits = omega (arith, xor_add_and a (2 ^ 64 - 1), and_mask a 64)

-- a mask, where its positions are fewer than 64 and where they are not
pub one_less : (k : ℕ) → k < 64 → 1 * 2 ^ k % 2 ^ 64 - 1 ≡ 2 ^ k - 1
one_less k l = ap (λ n. n - 1) (one_shl k 64 l)

pub first_mask : (x full : ℕ) → x < 128 → full ≡ (2 ^ 64 - x / 64) % 2 ^ 64 → bit_or full (1 * 2 ^ (x % 64) % 2 ^ 64 - 1) ≡ 2 ^ min x 64 - 1
first_mask x full l is =
    ⊎_elim
    (λ low.
    let none : full ≡ 0 = omega arith in
    let rest : x % 64 ≡ x = omega arith in
    let least : min x 64 ≡ x = omega arith in
    ap₂ (λ f m. bit_or f m) none (one_less (x % 64) (omega arith))
    ∙ or_zero_l (2 ^ (x % 64) - 1)
    ∙ ap (λ k. 2 ^ k - 1) (rest ∙ sym least))
    (λ high.
    let all : full ≡ 2 ^ 64 - 1 = omega arith in
    let least : min x 64 ≡ 64 = omega arith in
    let part = 2 ^ (x % 64) - 1 in
    ap₂ (λ f m. bit_or f m) all (one_less (x % 64) (omega arith))
    ∙ (same_from_bits (bit_or (2 ^ 64 - 1) part) (2 ^ 64 - 1)
    (λ i.
    ⊎_elim
    (λ inside. omega (arith, bit_at_or (2 ^ 64 - 1) part i, bit_at_ones 64 i inside, bit_at-lt part i))
    (λ above. omega (arith, bit_at_or (2 ^ 64 - 1) part i, bit_at_ones_above 64 i above, bit_at_ones_above (x % 64) i (omega arith)))
    (cases_lt i 64)))
    ∙ sym (ap (λ k. 2 ^ k - 1) least))
    (cases_lt x 64)

pub second_mask : (x full : ℕ) → x < 128 → full ≡ (2 ^ 64 - x / 64) % 2 ^ 64 → bit_and full (1 * 2 ^ (x % 64) % 2 ^ 64 - 1) ≡ 2 ^ (x - 64) - 1
second_mask x full l is =
    ⊎_elim
    (λ low.
    let none : full ≡ 0 = omega arith in
    let left : 0 ≡ x - 64 = omega arith in
    ap (λ f. bit_and f (1 * 2 ^ (x % 64) % 2 ^ 64 - 1)) none
    ∙ ap (λ k. 2 ^ k - 1) left)
    (λ high.
    let all : full ≡ 2 ^ 64 - 1 = omega arith in
    let rest : x % 64 ≡ x - 64 = omega arith in
    let part = 2 ^ (x % 64) - 1 in
    ap₂ (λ f m. bit_and f m) all (one_less (x % 64) (omega arith))
    ∙ and_comm (2 ^ 64 - 1) part
    ∙ and_mask part 64
    ∙ mod-eq_of_lt (let less : part < 2 ^ 64 = omega (arith, pow_below (x % 64) 64 (omega arith)) in less)
    ∙ ap (λ k. 2 ^ k - 1) rest)
    (cases_lt x 64)

-- ---- the digits that are a digit

both_bits : (low high s t j : ℕ) → bit_at (bit_and (bit_xor low s) (bit_xor high t)) j
    ≡ min ((bit_at low j + bit_at s j) % 2) ((bit_at high j + bit_at t j) % 2)
both_bits low high s t j = bit_at_and (bit_xor low s) (bit_xor high t) j ∙ ap₂ min (bit_at_xor low s j) (bit_at_xor high t j)

by_bits : (a b d u v : ℕ) → a < 2 → b < 2 → d < 4 → u ≡ 1 - d % 2 → v ≡ 1 - d / 2
    → min ((a + u) % 2) ((b + v) % 2) ≡ truth (a + 2 * b == d)
by_bits a b d u v la lb ld of_u of_v = ap₂ (λ x y. min ((a + x) % 2) ((b + y) % 2)) of_u of_v ∙ all a b d la lb ld
  where
    all : (a b d : ℕ) → a < 2 → b < 2 → d < 4 → min ((a + (1 - d % 2)) % 2) ((b + (1 - d / 2)) % 2) ≡ truth (a + 2 * b == d)
    all zero zero zero la lb ld = refl
    all zero zero (suc zero) la lb ld = refl
    all zero zero (suc (suc zero)) la lb ld = refl
    all zero zero (suc (suc (suc zero))) la lb ld = refl
    all zero (suc zero) zero la lb ld = refl
    all zero (suc zero) (suc zero) la lb ld = refl
    all zero (suc zero) (suc (suc zero)) la lb ld = refl
    all zero (suc zero) (suc (suc (suc zero))) la lb ld = refl
    all (suc zero) zero zero la lb ld = refl
    all (suc zero) zero (suc zero) la lb ld = refl
    all (suc zero) zero (suc (suc zero)) la lb ld = refl
    all (suc zero) zero (suc (suc (suc zero))) la lb ld = refl
    all (suc zero) (suc zero) zero la lb ld = refl
    all (suc zero) (suc zero) (suc zero) la lb ld = refl
    all (suc zero) (suc zero) (suc (suc zero)) la lb ld = refl
    all (suc zero) (suc zero) (suc (suc (suc zero))) la lb ld = refl
    all (suc (suc a)) b d la lb ld = absurd (omega arith)
    all zero (suc (suc b)) d la lb ld = absurd (omega arith)
    all (suc zero) (suc (suc b)) d la lb ld = absurd (omega arith)
    all zero zero (suc (suc (suc (suc d)))) la lb ld = absurd (omega arith)
    all zero (suc zero) (suc (suc (suc (suc d)))) la lb ld = absurd (omega arith)
    all (suc zero) zero (suc (suc (suc (suc d)))) la lb ld = absurd (omega arith)
    all (suc zero) (suc zero) (suc (suc (suc (suc d)))) la lb ld = absurd (omega arith)

-- one less than a digit's bit, as a word: every bit where it is 0, and none where it is 1
bit_of_turned : (e j : ℕ) → e < 2 → j < 64 → bit_at ((e + (2 ^ 64 - 1)) % 2 ^ 64) j ≡ 1 - e
bit_of_turned zero j l inside = bit_at_ones 64 j inside
bit_of_turned (suc zero) j l inside = bit_at-zero j
bit_of_turned (suc (suc e)) j l inside = absurd (omega arith)

pub matched : (low high d j : ℕ) → d < 4 → j < 64
    → bit_at (bit_and (bit_xor low ((bit_and d 1 + (2 ^ 64 - 1)) % 2 ^ 64)) (bit_xor high ((d / 2 + (2 ^ 64 - 1)) % 2 ^ 64))) j
    ≡ truth (bit_at low j + 2 * bit_at high j == d)
matched low high d j l inside =
    let odd : bit_and d 1 ≡ d % 2 = and_mask d 1 in
    both_bits low high ((bit_and d 1 + (2 ^ 64 - 1)) % 2 ^ 64) ((d / 2 + (2 ^ 64 - 1)) % 2 ^ 64) j
    ∙ by_bits (bit_at low j) (bit_at high j) d _ _ (bit_at-lt low j) (bit_at-lt high j) l
    (bit_of_turned (bit_and d 1) j (omega (arith, odd)) inside ∙ ap (λ e. 1 - e) odd)
    (bit_of_turned (d / 2) j (omega arith) inside)
