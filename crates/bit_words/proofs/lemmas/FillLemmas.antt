-- How a run of equal numbers grows.
use Rattle.std.proofs.Common.{◌≡◌, ℕ, ◌+◌, ◌*◌, ◌%◌, ◌^◌, ◌<◌, ◌≤◌, List, length, sym, ap, ◌∙◌, refl, inl, ⊎_elim, arith, mul-le-mul_right}
use Rattle.std.proofs.lemmas.Bool.{cases_lt}
use Rattle.std.proofs.lemmas.Nat.{pow_pos}
use Rattle.bit_lists.proofs.lemmas.BesideLemmas.{number_at-with_number_beside}
use Rattle.bit_lists.proofs.lemmas.BitsLemmas.{length-bits_of}
use Rattle.bit_lists.proofs.lemmas.NumberLemmas.{item-with_number_above, number_at-with_number}
use Rattle.bit_lists.specs.Bits.{bits_of, item}
use Rattle.bit_lists.specs.Number.{number_at, with_number}
use Rattle.bit_words.proofs.lemmas.FirstLemmas.{no_number}

-- the first n numbers of w bits are the lowest bits of v, and the bits after them are as they were
pub record IsFilled (old new : List ℕ) (w v n : ℕ) : Type 0 where
  pub numbers : (k : ℕ) → k < n → number_at (bits_of new) (k * w) w ≡ v % 2 ^ w
  pub beyond : (i : ℕ) → n * w ≤ i → item (bits_of new) i ≡ item (bits_of old) i
  pub same_length : length new ≡ length old

pub filled_none : (words : List ℕ) (w v : ℕ) → IsFilled words words w v 0
filled_none words w v = record { numbers = λ k l. absurd (omega arith); beyond = λ i l. refl; same_length = refl }

-- numbers of no bits
pub filled_empty : (words : List ℕ) (w v : ℕ) → w ≡ 0 → (k : ℕ) → number_at (bits_of words) (k * w) w ≡ v % 2 ^ w
filled_empty words w v none k =
    let zero : v % 2 ^ w ≡ 0 = ap (λ n. v % 2 ^ n) none ∙ omega arith in
    no_number (bits_of words) (k * w) w none ∙ sym zero

-- one more number
pub filled_more : (old mid new : List ℕ) (w v n : ℕ) → IsFilled old mid w v n → n * w + w ≤ 64 * length old
    → bits_of new ≡ with_number (bits_of mid) (n * w) w (v % 2 ^ w) → length new ≡ length mid → IsFilled old new w v (n + 1)
filled_more old mid new w v n before inside is len = record {
  numbers = λ k l. ap (λ b. number_at b (k * w) w) is ∙ ⊎_elim
      (λ (less : k < n).
      let e : k + 1 ≤ n = omega arith in
      let row : (k + 1) * w ≤ n * w = mul-le-mul_right w e in
      number_at-with_number_beside (bits_of mid) (n * w) w (v % 2 ^ w) (k * w) w room (inl (omega (arith, row))) ∙ before.numbers k less)
      (λ (from : n ≤ k).
      let e : k ≡ n = omega arith in
      ap (λ i. number_at (with_number (bits_of mid) (n * w) w (v % 2 ^ w)) (i * w) w) e
      ∙ number_at-with_number (bits_of mid) (n * w) w (v % 2 ^ w) room (omega (arith, pow_pos w)))
      (cases_lt k n);
  beyond = λ i l.
      let after : n * w + w ≤ i = omega arith in
      ap (λ b. item b i) is ∙ item-with_number_above (bits_of mid) (n * w) w (v % 2 ^ w) i room after ∙ before.beyond i (omega arith);
  same_length = len ∙ before.same_length;
}
  where
    room : n * w + w ≤ length (bits_of mid)
    room = omega (arith, length-bits_of mid, before.same_length)
