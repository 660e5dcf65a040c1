-- The binary digits of what shifts, masks and tests compute on one word. `bit_at v j` is digit j of v as a number.
use Rattle.std.proofs.Common.{◌≡◌, ℕ, zero, suc, ◌+◌, ◌-◌, ◌*◌, ◌/◌, ◌%◌, ◌^◌, ◌<◌, ◌≤◌, Bool, cond, not, eqb, sym, refl, ap, ◌∙◌, arith, w64, min, max, bit_and, bit_or, ne_eqb, ap₂, ⊎_elim, ◌≢◌}
use Rattle.std.proofs.lemmas.Bool.{cases_lt}
use Rattle.std.proofs.lemmas.Nat.{pow_pos, pow_below, mod-pow-add, shr-shr, shr_split, one_shl}
use Rattle.std.proofs.lemmas.Nat.Bits.{bit_at-lt, bit_at-zero, bit_at_not, bit_at_cat_low, bit_at_cat_high, bit_at_above, bit_at_and, bit_at_or, and_pow, bit_at_ones_above, same_from_bits_below}
use Rattle.std.specs.Int.{bit_at, bit_not}
use Rattle.bit_lists.specs.Bits.{digit}

-- ---- shifts

pub bit_at-shr : (v k j i : ℕ) → k + j ≡ i → bit_at (v / 2 ^ k) j ≡ bit_at v i
bit_at-shr v k j i e = ap (λ x. x % 2) (shr-shr v k j) ∙ ap (bit_at v) e

-- `v % 2 ^ w` keeps the w lowest digits
pub bit_at-mod : (v w j : ℕ) → j < w → bit_at (v % 2 ^ w) j ≡ bit_at v j
bit_at-mod v w j l =
    sym (bit_at_cat_low (v / 2 ^ w) w (v % 2 ^ w) j l) ∙ ap (λ x. bit_at x j) (shr_split v w)

pub bit_at-mod_above : (v w j : ℕ) → w ≤ j → bit_at (v % 2 ^ w) j ≡ 0
bit_at-mod_above v w j l = bit_at_above (v % 2 ^ w) w j (mod-lt' v w) l
  where
    mod-lt' : (v w : ℕ) → v % 2 ^ w < 2 ^ w
    mod-lt' v w = omega (arith, pow_pos w)

-- `v << k` at w bits: zeros below k, and from there on the digits of v
pub bit_at-shl_below : (v k w j : ℕ) → j < w → j < k → bit_at (v * 2 ^ k % 2 ^ w) j ≡ 0
bit_at-shl_below v k w j l m =
    bit_at-mod (v * 2 ^ k) w j l
    ∙ ap (λ x. bit_at x j) (let e : v * 2 ^ k ≡ v * 2 ^ k + 0 = omega arith in e)
    ∙ bit_at_cat_low v k 0 j m
    ∙ bit_at-zero j

pub bit_at-shl : (v k w j i : ℕ) → j < w → k + i ≡ j → bit_at (v * 2 ^ k % 2 ^ w) j ≡ bit_at v i
bit_at-shl v k w j i l e =
    bit_at-mod (v * 2 ^ k) w j l
    ∙ ap (λ x. bit_at x j) (let e : v * 2 ^ k ≡ v * 2 ^ k + 0 = omega arith in e)
    ∙ bit_at_cat_high v k 0 j (pow_pos k) (omega arith)
    ∙ ap (bit_at v) (let f : j - k ≡ i = omega arith in f)

-- a truth as a digit
abbrev pub truth : Bool → ℕ
truth b = cond b 1 0

pub truth-digit : (v j : ℕ) → truth (digit v j) ≡ bit_at v j
truth-digit v j = by (bit_at v j) (bit_at-lt v j)
  where
    by : (d : ℕ) → d < 2 → truth (eqb d 1) ≡ d
    by zero l = refl
    by (suc zero) l = refl
    by (suc (suc d)) l = absurd (omega arith)

-- ---- one bit

-- `v & (1 << k) != 0`
pub digit_tested : (v k : ℕ) → k < 64 → not (eqb (bit_and v (1 * 2 ^ k % 2 ^ 64)) 0) ≡ digit v k
digit_tested v k l =
    ap (λ m. not (eqb (bit_and v m) 0)) (one_shl k 64 l)
    ∙ ap (λ m. not (eqb m 0)) (and_pow v k)
    ∙ by (bit_at v k) (2 ^ k) (bit_at-lt v k) (pow_pos k)
  where
    by : (d p : ℕ) → d < 2 → 0 < p → not (eqb (d * p) 0) ≡ eqb d 1
    by zero p l some = let e : 0 * p ≡ 0 = omega arith in ap (λ m. not (eqb m 0)) e
    by (suc zero) p l some = ap not (ne_eqb (1 * p) 0 (λ e. omega arith))
    by (suc (suc d)) p l some = absurd (omega arith)

-- `word & !mask | value`
pub bit_at-replaced : (word mask value j : ℕ) → mask < 2 ^ 64 → j < 64
    → bit_at (bit_or (bit_and word (bit_not w64 mask)) value) j ≡ max (min (bit_at word j) (1 - bit_at mask j)) (bit_at value j)
bit_at-replaced word mask value j fits low =
    omega (arith, bit_at_or (bit_and word (bit_not w64 mask)) value j, bit_at_and word (bit_not w64 mask) j, bit_at_not w64 mask j fits low)

-- ---- the lowest one

-- n is its digits above t, a one at t, and zeros below
split_at_lowest : (n t : ℕ) → bit_at n t ≡ 1 → ((i : ℕ) → i < t → bit_at n i ≡ 0) → n / 2 ^ (1 + t) * 2 ^ (1 + t) + 2 ^ t ≡ n
split_at_lowest n t one below =
    let none : n % 2 ^ t ≡ 0 =
    same_from_bits_below t (n % 2 ^ t) 0 (omega (arith, pow_pos t)) (pow_pos t)
    (λ i l. bit_at-mod n t i l ∙ below i l ∙ sym (bit_at-zero i)) in
    let rest : n % 2 ^ (1 + t) ≡ 1 * 2 ^ t + 0 = mod-pow-add n 1 t ∙ ap₂ (λ d r. d * 2 ^ t + r) one none in
    omega (arith, shr_split n (1 + t), rest)

-- `n & (n - 1)` is n without its lowest one, at t
pub bit_at-lowest_cleared_same : (n t : ℕ) → bit_at n t ≡ 1 → ((i : ℕ) → i < t → bit_at n i ≡ 0) → bit_at (bit_and n (n - 1)) t ≡ 0
bit_at-lowest_cleared_same n t one below =
    let less : n / 2 ^ (1 + t) * 2 ^ (1 + t) + (2 ^ t - 1) ≡ n - 1 = omega (arith, split_at_lowest n t one below, pow_pos t) in
    let gone : bit_at (n - 1) t ≡ 0 =
    ap (λ x. bit_at x t) (sym less)
    ∙ bit_at_cat_low (n / 2 ^ (1 + t)) (1 + t) (2 ^ t - 1) t (omega arith)
    ∙ bit_at_ones_above t t (omega arith) in
    omega (arith, bit_at_and n (n - 1) t, gone)

pub bit_at-lowest_cleared_other : (n t : ℕ) → bit_at n t ≡ 1 → ((i : ℕ) → i < t → bit_at n i ≡ 0)
    → (i : ℕ) → i ≢ t → bit_at (bit_and n (n - 1)) i ≡ bit_at n i
bit_at-lowest_cleared_other n t one below i apart =
    ⊎_elim
    (λ before. omega (arith, bit_at_and n (n - 1) i, below i before))
    (λ from.
    let high = n / 2 ^ (1 + t) in
    let split = split_at_lowest n t one below in
    let less : high * 2 ^ (1 + t) + (2 ^ t - 1) ≡ n - 1 = omega (arith, split, pow_pos t) in
    let power : 2 ^ t < 2 ^ (1 + t) = pow_below t (1 + t) (omega arith) in
    let of_n : bit_at n i ≡ bit_at high (i - (1 + t)) =
    ap (λ x. bit_at x i) (sym split) ∙ bit_at_cat_high high (1 + t) (2 ^ t) i power (omega arith) in
    let of_less : bit_at (n - 1) i ≡ bit_at high (i - (1 + t)) =
    ap (λ x. bit_at x i) (sym less) ∙ bit_at_cat_high high (1 + t) (2 ^ t - 1) i (omega (arith, power)) (omega arith) in
    omega (arith, bit_at_and n (n - 1) i, of_n, of_less))
    (cases_lt i t)
