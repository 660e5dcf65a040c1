-- The density that is chosen is the one of the definition, and bounds the samples.
use Rattle.std.proofs.Common.{◌≡◌, ℕ, zero, suc, ◌+◌, ◌-◌, ◌*◌, ◌/◌, ◌^◌, ◌<◌, ◌≤◌, ◌≢◌, true, false, min, max, nat_le, nat_lt, nat_eq, pow-suc, arith, sym, ap, subst, le_trans, le-ltb, lt-ltb, ne_eqb, inl, inr}
use Rattle.std.proofs.Math.Nat.{mul-le-mul_left, mul-le-mul_right, mul-div-le}
use Rattle.std.proofs.Math.Pow.{pow_mono}
use Rattle.std.proofs.lemmas.Nat.{pow-add}
use Rattle.std.proofs.lemmas.Bool.{cases_lt}
use Rattle.std.proofs.lemmas.Bool.Decides.{nat_tests}
use Rattle.bitm_strategies.specs.Density.{log2, optimal_log, optimal_log_of_rare}
use Rattle.bit_lists.proofs.lemmas.DigitLemmas.{digit_count_least, digit_count_most}

-- the logarithm by its two powers
pub log2_is : (k n : ℕ) → 2 ^ k ≤ n → n < 2 * 2 ^ k → k ≡ log2 n
log2_is k n h l = omega (arith, digit_count_least k n h, digit_count_most (suc k) n (omega (arith, pow-suc 2 k)))

-- ---- the density

-- P, L and D stand for powers
few : (n len l d p : ℕ) → n * l ≤ len → p ≤ 2 * l * d → n * p ≤ 3 * len * d
few n len l d p h k = omega (arith, mul-le-mul_left n k, mul-le-mul_right d h)

many : (n len d p : ℕ) → 4 * n ≤ 3 * len → p ≤ 4 * d → n * p ≤ 3 * len * d
many n len d p h k = omega (arith, mul-le-mul_left n k, mul-le-mul_right d h)

pow_over : (m l d : ℕ) → m ≤ l + d → 2 ^ (m + 1) ≤ 2 * 2 ^ l * 2 ^ d
pow_over m l d h =
    let a : 2 ^ (m + 1) ≤ 2 ^ (1 + l + d) = pow_mono (omega arith) in
    omega (arith, a, pow-add 2 (1 + l) d, ap (λ (x : ℕ). x * 2 ^ d) (pow-add 2 1 l))

-- the few have their logarithm among themselves
less_than_four : (l x : ℕ) → 2 ^ l ≤ x → x < 4 → l ≤ 1
less_than_four zero x h k = omega arith
less_than_four (suc zero) x h k = omega arith
less_than_four (suc (suc l)) x h k = omega (arith, pow_mono {i = 2} {j = suc (suc l)} (omega arith))

pub bound_all : (n len most : ℕ) → n ≤ len → n * 2 ^ (most + 1) ≤ 3 * len * 2 ^ most
bound_all n len most h = few n len 1 (2 ^ most) (2 ^ (most + 1)) (omega arith) (omega (arith, pow-add 2 most 1))

quotient_few : (n len r : ℕ) → r ≢ 0 → r ≡ min n (len - n) → len - n < n → 4 * n < 3 * len → len / r < 4
quotient_few n len r some is h k =
    elim (cases_lt (len / r) 4) [
      | inl l ↦ l
      | inr g ↦ absurd (omega (arith, mul-le-mul_left r g, mul-div-le len r))
    ]

module _ (n len most r l d : ℕ) (rare : 4 * n < 3 * len) (some : r ≢ 0) (is : r ≡ min n (len - n))
    (below : 2 ^ l ≤ len / r) (above : len / r < 2 * 2 ^ l) (result : d ≡ max (most - l) 7) where
  pub optimal_is : d ≡ optimal_log n len most
  optimal_is =
      let t1 : nat_le (3 * len) (4 * n) ≡ false = grind (arith, nat_tests) in
      let t3 : nat_eq r 0 ≡ false = ne_eqb r 0 some in
      let k = log2_is l (len / r) below above in
      elim (cases_lt len (2 * n)) [
        | inl big ↦
            let t2 : nat_lt len (2 * n) ≡ true = lt-ltb len (2 * n) big in
            let e : len - n ≡ r = omega arith in
            rw (t1, t2, e, t3) (omega arith)
        | inr small ↦
            let t2 : nat_lt len (2 * n) ≡ false = le-ltb len (2 * n) small in
            let e : n ≡ r = omega arith in
            rw (t1, t2) (subst (λ (x : ℕ). d ≡ optimal_log_of_rare x len most) (sym e) (rw t3 (omega arith)))
      ]

  pub bound_is : n ≤ len → n * 2 ^ (most + 1) ≤ 3 * len * 2 ^ d
  bound_is h =
      elim (cases_lt (len - n) n) [
        | inl big ↦
            let l1 : l ≤ 1 = less_than_four l (len / r) below (quotient_few n len r some is big rare) in
            many n len (2 ^ d) (2 ^ (most + 1)) (omega arith) (omega (arith, pow_over most 1 d (omega arith)))
        | inr small ↦
            let e : r ≡ n = omega arith in
            let within : n * 2 ^ l ≤ len =
            subst (λ (x : ℕ). x * 2 ^ l ≤ len) e (le_trans (mul-le-mul_left r below) (mul-div-le len r)) in
            few n len (2 ^ l) (2 ^ d) (2 ^ (most + 1)) within (pow_over most l d (omega arith))
      ]
