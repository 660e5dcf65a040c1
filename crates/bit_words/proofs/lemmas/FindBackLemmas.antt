-- The search for the last one, word by word.
use Rattle.std.proofs.Common.{◌≡◌, ℕ, suc, ◌+◌, ◌-◌, ◌*◌, ◌/◌, ◌%◌, ◌^◌, ◌<◌, ◌≤◌, true, false, List, length, get_or, eqb, sym, refl, ap, ◌∙◌, ⊎_elim, arith, w64, bit_and}
use Rattle.std.proofs.lemmas.Bool.{cases_lt, false≢true}
use Rattle.std.proofs.lemmas.Nat.{and_le_l, leading_top}
use Rattle.std.proofs.lemmas.Nat.Bits.{bit_at-lt, bit_at-zero, bit_at_and, bit_at_ones, bit_at_ones_above, bit_at_above, bit_at_cat_high}
use Rattle.std.specs.Int.{bit_at, leading_zeros}
use Rattle.bit_lists.proofs.lemmas.BitsLemmas.{length-bits_of, item-bits_of_at}
use Rattle.bit_lists.specs.Bits.{bits_of, item}
use Rattle.bit_lists.specs.Count.{IsLastOneTo}

-- `leading_zeros` of a number that is not 0 gives the position of its highest one
highest : (n : ℕ) → 0 < n → n < 2 ^ 64
    → (leading_zeros w64 n < 64) × (bit_at n (63 - leading_zeros w64 n) ≡ 1) × ((i : ℕ) → 63 - leading_zeros w64 n < i → bit_at n i ≡ 0)
highest n some fits =
    let h = leading_top 64 n some fits in
    let j = h.0 in
    let at : 63 - leading_zeros w64 n ≡ j = omega (arith, h.1) in
    let split : 1 * 2 ^ j + (n - 2 ^ j) ≡ n = omega (arith, h.2) in
    let none : j - j ≡ 0 = omega arith in
    let next : 2 ^ suc j ≡ 2 ^ j + 2 ^ j = omega arith in (
      omega (arith, h.1),
      ap (bit_at n) at
          ∙ ap (λ x. bit_at x j) (sym split)
          ∙ bit_at_cat_high 1 j (n - 2 ^ j) j (omega (arith, h.3)) (omega arith)
          ∙ ap (bit_at 1) none,
      λ i above. bit_at_above n (suc j) i h.3 (omega (arith, above)),
    )

-- rest is word q without its bits after s, and no bit from the next word up to s is a one
pub record IsRestTo (words : List ℕ) (s q rest : ℕ) : Type 0 where
  pub within : q < length words
  pub fits : rest < 2 ^ 64
  pub kept : (j : ℕ) → j < 64 → 64 * q + j ≤ s → bit_at rest j ≡ bit_at (get_or words q 0) j
  pub cleared : (j : ℕ) → j < 64 → s < 64 * q + j → bit_at rest j ≡ 0
  pub passed : (i : ℕ) → i ≤ s → 64 * (q + 1) ≤ i → item (bits_of words) i ≡ false

-- `word & mask`
pub IsRestTo-start : (words : List ℕ) (s mask : ℕ) → s / 64 < length words → get_or words (s / 64) 0 < 2 ^ 64 → mask ≡ 2 ^ (s % 64 + 1) - 1
    → IsRestTo words s (s / 64) (bit_and (get_or words (s / 64) 0) mask)
IsRestTo-start words s mask within fits low = record {
  within = within;
  fits = omega (arith, and_le_l w mask);
  kept = λ j l to.
      let m : bit_at mask j ≡ 1 = ap (λ x. bit_at x j) low ∙ bit_at_ones (s % 64 + 1) j (omega arith) in
      omega (arith, bit_at_and w mask j, m, bit_at-lt w j);
  cleared = λ j l after.
      let m : bit_at mask j ≡ 0 = ap (λ x. bit_at x j) low ∙ bit_at_ones_above (s % 64 + 1) j (omega arith) in
      omega (arith, bit_at_and w mask j, m);
  passed = λ i to from. absurd (omega arith);
}
  where
    w : ℕ
    w = get_or words (s / 64) 0

-- where nothing is left of word q, no bit from its first on is a one
passed_back : (words : List ℕ) (s q rest : ℕ) → IsRestTo words s q rest → rest ≡ 0
    → (i : ℕ) → i ≤ s → 64 * q ≤ i → item (bits_of words) i ≡ false
passed_back words s q rest h none i to from =
    ⊎_elim
    (λ here.
    let j = i - 64 * q in
    let position : i ≡ 64 * q + j = omega arith in
    let digit_is : bit_at (get_or words q 0) j ≡ 0 =
    sym (h.kept j (omega arith) (omega arith)) ∙ ap (λ r. bit_at r j) none ∙ bit_at-zero j in
    item-bits_of_at words i q j position (omega arith) h.within ∙ ap (λ d. eqb d 1) digit_is)
    (λ later. h.passed i to later)
    (cases_lt i (64 * (q + 1)))

-- where there is no word before it, there is no one
pub none_before : (words : List ℕ) (s q rest : ℕ) → IsRestTo words s q rest → rest ≡ 0 → q ≡ 0
    → (i : ℕ) → i ≤ s → item (bits_of words) i ≡ false
none_before words s q rest h none first i to = passed_back words s q rest h none i to (omega (arith, first))

-- then the word before it is read
pub IsRestTo-next : (words : List ℕ) (s q rest : ℕ) → IsRestTo words s q rest → rest ≡ 0 → 0 < q → 64 * q ≤ s
    → get_or words (q - 1) 0 < 2 ^ 64
    → IsRestTo words s (q - 1) (get_or words (q - 1) 0)
IsRestTo-next words s q rest h none later near fits = record {
  within = omega (arith, h.within);
  fits = fits;
  kept = λ j l to. refl;
  cleared = λ j l after. absurd (omega arith);
  passed = λ i to from. passed_back words s q rest h none i to (omega arith);
}

-- where some one is left, a word before word q has it
pub some_before : (words : List ℕ) (s q rest p : ℕ) → IsRestTo words s q rest → rest ≡ 0 → p ≤ s → item (bits_of words) p ≡ true
    → 0 < q
some_before words s q rest p h none to one =
    ⊎_elim
    (λ before. omega arith)
    (λ from. absurd (false≢true (sym (passed_back words s q rest h none p to from) ∙ one)))
    (cases_lt p (64 * q))

-- the highest one of what is left is the last one
pub last_left : (words : List ℕ) (s q rest : ℕ) → IsRestTo words s q rest → 0 < rest
    → IsLastOneTo (bits_of words) s (q * 64 + (63 - leading_zeros w64 rest))
last_left words s q rest h some =
    let t = 63 - leading_zeros w64 rest in
    let top = highest rest some h.fits in
    let low : t < 64 = omega arith in
    let early : q * 64 + t ≤ s =
    ⊎_elim
    (λ late. let none : bit_at rest t ≡ 0 = h.cleared t low (omega arith) in let one : bit_at rest t ≡ 1 = top.1 in absurd (omega arith))
    (λ l. l)
    (cases_lt s (q * 64 + t)) in
    let at : bit_at (get_or words q 0) t ≡ 1 = sym (h.kept t low (omega arith)) ∙ top.1 in
    record {
      to = early;
      inside = omega (arith, length-bits_of words, h.within);
      is = item-bits_of_at words (q * 64 + t) q t (omega arith) low h.within ∙ ap (λ d. eqb d 1) at;
      greatest = λ i from to.
          ⊎_elim
          (λ here.
          let j = i - 64 * q in
          let position : i ≡ 64 * q + j = omega arith in
          let zero_there : bit_at (get_or words q 0) j ≡ 0 = sym (h.kept j (omega arith) (omega arith)) ∙ top.2 j (omega arith) in
          item-bits_of_at words i q j position (omega arith) h.within ∙ ap (λ d. eqb d 1) zero_there)
          (λ later. h.passed i to later)
          (cases_lt i (64 * (q + 1)));
    }
