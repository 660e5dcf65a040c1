-- How a run of equal fragments grows over words that were zeros.
use Rattle.std.proofs.Common.{◌≡◌, ℕ, ◌+◌, ◌*◌, ◌/◌, ◌%◌, ◌^◌, ◌<◌, ◌≤◌, Bool, false, List, length, replicate, eqb, sym, ap, subst, ◌∙◌, ⊎_elim, arith, inr}
use Rattle.std.proofs.lemmas.Bool.{cases_lt}
use Rattle.std.proofs.lemmas.List.{length-replicate, get_or-replicate, get_or_past}
use Rattle.std.proofs.lemmas.Nat.{pow_pos}
use Rattle.std.proofs.lemmas.Nat.Bits.{same_from_bits_below, bit_at-zero}
use Rattle.std.specs.Int.{div_ceil}
use Rattle.bit_lists.proofs.lemmas.BitsLemmas.{length-bits_of, item-bits_of_at}
use Rattle.bit_lists.proofs.lemmas.NumberLemmas.{number_at-lt, bit_at-number_at, item-with_number_above, number_at-with_number}
use Rattle.bit_lists.proofs.lemmas.SwapLemmas.{number_at-with_number_apart}
use Rattle.bit_lists.proofs.lemmas.WordLemmas.{truth}
use Rattle.bit_lists.specs.Bits.{digit, bits_of, item}
use Rattle.bit_lists.specs.Number.{number_at, with_number}

-- the first i fragments of width s are word, and the bits after them are zeros
pub record IsRun (words : List ℕ) (word s i : ℕ) : Type 0 where
  pub fragments : (k : ℕ) → k < i → number_at (bits_of words) (k * s) s ≡ word
  pub zeros : (p : ℕ) → i * s ≤ p → item (bits_of words) p ≡ false

-- zeros are the number 0
number_at_zeros : (b : List Bool) (t n : ℕ) → t + n ≤ length b → ((p : ℕ) → t ≤ p → item b p ≡ false) → number_at b t n ≡ 0
number_at_zeros b t n within zeros =
    same_from_bits_below n (number_at b t n) 0 (number_at-lt b t n within) (pow_pos n)
    (λ k l. bit_at-number_at b t n k l ∙ ap truth (zeros (t + k) (omega arith)) ∙ sym (bit_at-zero k))

zero_words : (words : List ℕ) (count : ℕ) → words ≡ replicate count 0 → (p : ℕ) → item (bits_of words) p ≡ false
zero_words words count is p = ap (λ l. item (bits_of l) p) is ∙ ⊎_elim
    (λ inside. item-bits_of_at zeros p (p / 64) (p % 64) (omega arith) (omega arith) (omega (arith, count_is))
    ∙ ap (λ w. digit w (p % 64)) (get_or-replicate count (p / 64) 0 0 (omega arith))
    ∙ ap (λ d. eqb d 1) (bit_at-zero (p % 64)))
    (λ past. get_or_past (bits_of zeros) p false (omega (arith, length-bits_of zeros, count_is)))
    (cases_lt p (64 * count))
  where
    zeros : List ℕ
    zeros = replicate count 0

    count_is : length {A = ℕ} (replicate count 0) ≡ count
    count_is = length-replicate {A = ℕ} count 0

-- no fragment yet
pub IsRun_none : (words : List ℕ) (count word s : ℕ) → words ≡ replicate count 0 → IsRun words word s 0
IsRun_none words count word s is = record {
  fragments = λ k l. absurd (omega arith);
  zeros = λ p l. zero_words words count is p;
}

-- fragments of no bits
pub IsRun_empty : (words : List ℕ) (count word s n : ℕ) → words ≡ replicate count 0 → s ≡ 0 → word < 2 ^ s → IsRun words word s n
IsRun_empty words count word s n is none fits = record {
  fragments = λ k l. ap (λ w. number_at (bits_of words) (k * w) w) none ∙ no_digits k ∙ sym no_word;
  zeros = λ p l. zero_words words count is p;
}
  where
    no_digits : (k : ℕ) → number_at (bits_of words) (k * 0) 0 ≡ 0
    no_digits k = number_at_zeros (bits_of words) (k * 0) 0 (omega arith) (λ p l. zero_words words count is p)

    no_word : word ≡ 0
    no_word =
        let P : ℕ → Type 0 = λ w. word < 2 ^ w in
        let low : word < 1 = subst P none fits in
        omega arith

-- one more fragment
pub IsRun_more : (old new : List ℕ) (word s i : ℕ) → IsRun old word s i → bits_of new ≡ with_number (bits_of old) (i * s) s word
    → i * s + s ≤ 64 * length old → word < 2 ^ s → IsRun new word s (i + 1)
IsRun_more old new word s i run after room fits = record {
  fragments = λ k l. ap (λ b. number_at b (k * s) s) after ∙ ⊎_elim
      (λ below. let e : k * s + s ≤ i * s = grind arith in
      number_at-with_number_apart (bits_of old) (i * s) s word (k * s) s within (omega (arith, e, within)) (inr e) ∙ run.fragments k below)
      (λ from. let e : i ≡ k = omega arith in
      let P : ℕ → Type 0 = λ j. number_at (with_number (bits_of old) (i * s) s word) (j * s) s ≡ word in
      subst P e (number_at-with_number (bits_of old) (i * s) s word within fits))
      (cases_lt k i);
  zeros = λ p l.
      let past : i * s + s ≤ p = grind (arith, l) in
      ap (λ b. item b p) after ∙ item-with_number_above (bits_of old) (i * s) s word p within past ∙ run.zeros p (omega arith);
}
  where
    within : i * s + s ≤ length (bits_of old)
    within = omega (arith, length-bits_of old)

-- the next fragment is inside, and its bits are zeros
pub next_inside : (made words : List ℕ) (n s i : ℕ) → made ≡ replicate (div_ceil (n * s) 64) 0 → length words ≡ length made → i < n
    → i * s + s ≤ 64 * length words
next_inside made words n s i is same l =
    let room : i * s + s ≤ n * s = grind arith in
    omega (arith, room, same, ap length is, length-replicate {A = ℕ} (div_ceil (n * s) 64) 0)

pub next_zeros : (words : List ℕ) (word s i : ℕ) → IsRun words word s i → i * s + s ≤ 64 * length words
    → number_at (bits_of words) (i * s) s ≡ 0
next_zeros words word s i run within = number_at_zeros (bits_of words) (i * s) s (omega (arith, length-bits_of words)) run.zeros
