-- The search for the next one, word by word.
use Rattle.std.proofs.Common.{◌≡◌, ℕ, ◌+◌, ◌-◌, ◌*◌, ◌/◌, ◌%◌, ◌^◌, ◌<◌, ◌≤◌, true, false, List, length, get_or, eqb, sym, refl, ap, ◌∙◌, ⊎_elim, arith, w64, bit_and}
use Rattle.std.proofs.lemmas.Bool.{cases_lt, false≢true}
use Rattle.std.proofs.lemmas.List.{get_or_past}
use Rattle.std.proofs.lemmas.Nat.{and_le_l, pow_below}
use Rattle.std.proofs.lemmas.Nat.Bits.{bit_at-lt, bit_at-zero, bit_at_not, bit_at_and, bit_at_ones, bit_at_ones_above, bit_at-trailing_zeros}
use Rattle.std.specs.Int.{bit_at, bit_not, trailing_zeros}
use Rattle.bit_lists.proofs.lemmas.BitsLemmas.{length-bits_of, item-bits_of_at}
use Rattle.bit_lists.specs.Bits.{bits_of, item}
use Rattle.bit_lists.specs.Count.{IsFirstOneFrom}

-- a one stands inside
pub inside_from_one : (words : List ℕ) (p : ℕ) → item (bits_of words) p ≡ true → p < 64 * length words
inside_from_one words p one =
    ⊎_elim (λ l. l) (λ past. absurd (false≢true (sym (get_or_past (bits_of words) p false (omega (arith, length-bits_of words))) ∙ one)))
    (cases_lt p (64 * length words))

-- rest is word q without its bits before s, and no bit from s up to word q is a one
pub record IsRestFrom (words : List ℕ) (s q rest : ℕ) : Type 0 where
  pub within : q < length words
  pub fits : rest < 2 ^ 64
  pub kept : (j : ℕ) → j < 64 → s ≤ 64 * q + j → bit_at rest j ≡ bit_at (get_or words q 0) j
  pub cleared : (j : ℕ) → j < 64 → 64 * q + j < s → bit_at rest j ≡ 0
  pub passed : (i : ℕ) → s ≤ i → i < 64 * q → item (bits_of words) i ≡ false

-- `word & !mask` of the word w that was read
pub IsRestFrom-start : (words : List ℕ) (s w mask : ℕ) → s / 64 < length words → w ≡ get_or words (s / 64) 0
    → get_or words (s / 64) 0 < 2 ^ 64 → mask ≡ 2 ^ (s % 64) - 1
    → IsRestFrom words s (s / 64) (bit_and w (bit_not w64 mask))
IsRestFrom-start words s w mask within read fits low = record {
  within = within;
  fits = omega (arith, read, and_le_l w (bit_not w64 mask));
  kept = λ j l from.
      let m : bit_at mask j ≡ 0 = ap (λ x. bit_at x j) low ∙ bit_at_ones_above (s % 64) j (omega arith) in
      let same : bit_at w j ≡ bit_at (get_or words (s / 64) 0) j = ap (λ x. bit_at x j) read in
      omega (arith, bit_at_and w (bit_not w64 mask) j, bit_at_not w64 mask j small l, m, bit_at-lt w j, same);
  cleared = λ j l before.
      let m : bit_at mask j ≡ 1 = ap (λ x. bit_at x j) low ∙ bit_at_ones (s % 64) j (omega arith) in
      omega (arith, bit_at_and w (bit_not w64 mask) j, bit_at_not w64 mask j small l, m);
  passed = λ i from before. absurd (omega arith);
}
  where
    small : mask < 2 ^ 64
    small = omega (arith, low, pow_below (s % 64) 64 (omega arith))

-- where nothing is left of word q, no bit up to its end is a one
pub passed_word : (words : List ℕ) (s q rest : ℕ) → IsRestFrom words s q rest → rest ≡ 0
    → (i : ℕ) → s ≤ i → i < 64 * (q + 1) → item (bits_of words) i ≡ false
passed_word words s q rest h none i from before =
    ⊎_elim
    (λ earlier. h.passed i from earlier)
    (λ here.
    let j = i - 64 * q in
    let position : i ≡ 64 * q + j = omega arith in
    let digit_is : bit_at (get_or words q 0) j ≡ 0 =
    sym (h.kept j (omega arith) (omega arith)) ∙ ap (λ r. bit_at r j) none ∙ bit_at-zero j in
    item-bits_of_at words i q j position (omega arith) h.within ∙ ap (λ d. eqb d 1) digit_is)
    (cases_lt i (64 * q))

-- then the next word w is read
pub IsRestFrom-next : (words : List ℕ) (s q rest w : ℕ) → IsRestFrom words s q rest → rest ≡ 0 → s < 64 * (q + 1)
    → q + 1 < length words → w ≡ get_or words (q + 1) 0 → get_or words (q + 1) 0 < 2 ^ 64
    → IsRestFrom words s (q + 1) w
IsRestFrom-next words s q rest w h none near within read fits = record {
  within = within;
  fits = omega (arith, read);
  kept = λ j l from. ap (λ x. bit_at x j) read;
  cleared = λ j l before. absurd (omega arith);
  passed = passed_word words s q rest h none;
}

-- where the words end, there is no one
pub none_left : (words : List ℕ) (s q rest : ℕ) → IsRestFrom words s q rest → rest ≡ 0 → length words ≤ q + 1
    → (i : ℕ) → s ≤ i → item (bits_of words) i ≡ false
none_left words s q rest h none end i from =
    ⊎_elim
    (λ inside. passed_word words s q rest h none i from (omega arith))
    (λ past. get_or_past (bits_of words) i false (omega (arith, length-bits_of words)))
    (cases_lt i (64 * length words))

pub none_from : (words : List ℕ) (s : ℕ) → length words ≤ s / 64 → (i : ℕ) → s ≤ i → item (bits_of words) i ≡ false
none_from words s end i from = get_or_past (bits_of words) i false (omega (arith, length-bits_of words))

-- word q whole, where no bit before it is a one
pub IsRestFrom-word : (words : List ℕ) (q : ℕ) → q < length words → get_or words q 0 < 2 ^ 64
    → ((i : ℕ) → i < 64 * q → item (bits_of words) i ≡ false)
    → IsRestFrom words 0 q (get_or words q 0)
IsRestFrom-word words q within fits before = record {
  within = within;
  fits = fits;
  kept = λ j l from. refl;
  cleared = λ j l early. absurd (omega arith);
  passed = λ i from l. before i l;
}

-- where some one is left, word q or a word after it has it
pub some_left : (words : List ℕ) (s q rest p : ℕ) → IsRestFrom words s q rest → rest ≡ 0 → s ≤ p → item (bits_of words) p ≡ true
    → q + 1 < length words
some_left words s q rest p h none from one =
    ⊎_elim
    (λ more. more)
    (λ end. absurd (false≢true (sym (none_left words s q rest h none end p from) ∙ one)))
    (cases_lt (q + 1) (length words))

-- the lowest one of what is left is the first one
pub first_left : (words : List ℕ) (s q rest : ℕ) → IsRestFrom words s q rest → 0 < rest
    → IsFirstOneFrom (bits_of words) s (q * 64 + trailing_zeros w64 rest)
first_left words s q rest h some =
    let t = trailing_zeros w64 rest in
    let lowest = bit_at-trailing_zeros w64 rest some h.fits in
    let low : t < 64 = lowest.0 in
    let late : s ≤ q * 64 + t =
    ⊎_elim
    (λ early. let none : bit_at rest t ≡ 0 = h.cleared t low (omega arith) in let one : bit_at rest t ≡ 1 = lowest.1 in absurd (omega arith))
    (λ l. l)
    (cases_lt (q * 64 + t) s) in
    let at : bit_at (get_or words q 0) t ≡ 1 = sym (h.kept t low (omega arith)) ∙ lowest.1 in
    record {
      from = late;
      inside = omega (arith, length-bits_of words, h.within);
      is = item-bits_of_at words (q * 64 + t) q t (omega arith) low h.within ∙ ap (λ d. eqb d 1) at;
      least = λ i from before.
          ⊎_elim
          (λ earlier. h.passed i from earlier)
          (λ here.
          let j = i - 64 * q in
          let position : i ≡ 64 * q + j = omega arith in
          let zero_there : bit_at (get_or words q 0) j ≡ 0 = sym (h.kept j (omega arith) (omega arith)) ∙ lowest.2 j (omega arith) in
          item-bits_of_at words i q j position (omega arith) h.within ∙ ap (λ d. eqb d 1) zero_there)
          (cases_lt i (64 * q));
    }
