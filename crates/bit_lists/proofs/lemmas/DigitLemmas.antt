-- How many binary digits a number has: one more than half of it, and between which powers of two it lies.
use Rattle.std.proofs.Common.{◌≡◌, ℕ, zero, suc, ◌+◌, ◌-◌, ◌*◌, ◌/◌, ◌^◌, ◌<◌, ◌≤◌, ◌↔◌, pow-suc, arith, inl, inr, ⊎_elim, ◌∙◌}
use Rattle.std.proofs.lemmas.Bool.{cases_lt}
use Rattle.std.proofs.lemmas.Int.Digits.{length-digits_of_step, length-digits_of-le}
use Rattle.std.proofs.lemmas.Nat.{leading_length, pow_pos}
use Rattle.std.specs.Int.{leading_zeros, w64}
use Rattle.bit_lists.specs.Bits.{digit_count}

-- half of a number has one digit less
pub digit_count_half : (n : ℕ) → 0 < n → digit_count n ≡ digit_count (n / 2) + 1
unfolding digit_count
digit_count_half n h = length-digits_of_step 2 n (omega arith) h

-- a number below 2 ^ k has k digits at most
pub digit_count_most : (k n : ℕ) → n < 2 ^ k → digit_count n ≤ k
unfolding digit_count
digit_count_most k n h = length-digits_of-le 2 k n (omega arith) h

-- a number from 2 ^ k on has more than k digits
pub digit_count_least : (k n : ℕ) → 2 ^ k ≤ n → k < digit_count n
digit_count_least zero n h = omega (arith, digit_count_half n (omega arith))
digit_count_least (suc k) n h =
    let half : 2 ^ k ≤ n / 2 = omega (arith, pow-suc 2 k) in
    omega (arith, digit_count_half n (omega (arith, pow_pos (suc k))), digit_count_least k (n / 2) half)

-- a greater number has no fewer digits
pub digit_count-mono : (a b : ℕ) → a ≤ b → digit_count a ≤ digit_count b
digit_count-mono a b h =
    elim (cases_lt a (2 ^ digit_count b)) [
      | inl below ↦ digit_count_most (digit_count b) a below
      | inr from ↦ absurd (omega (arith, digit_count_least (digit_count b) b (omega arith)))
    ]

-- so a number has at most k digits exactly where it is below 2 ^ k
pub digit_count-power : (n k : ℕ) → (digit_count n ≤ k) ↔ (n < 2 ^ k)
digit_count-power n k = (
  λ few. ⊎_elim (λ below. below) (λ from. absurd (omega (arith, few, digit_count_least k n from))) (cases_lt n (2 ^ k)),
  digit_count_most k n,
)

digit_count_between : (k n : ℕ) → n < 2 ^ k → 2 ^ k ≤ 2 * n + 1 → digit_count n ≡ k
digit_count_between zero n below from = omega (arith, digit_count_most 0 n below)
digit_count_between (suc k) n below from =
    omega (arith, digit_count_most (suc k) n below, digit_count_least k n (omega (arith, pow-suc 2 k)))

-- the zeros of a word before its first digit are the digits that it lacks of 64
pub digit_count_from_leading_zeros : (n : ℕ) → n < 2 ^ 64 → digit_count n ≡ 64 - leading_zeros w64 n
digit_count_from_leading_zeros n h =
    let top = leading_length 64 n h in
    digit_count_between top.0 n top.2 top.3 ∙ (let e : top.0 ≡ 64 - leading_zeros w64 n = omega (arith, top.1) in e)
