-- The fragments of the low vector, one more after another.
use Rattle.std.proofs.Common.{◌≡◌, ℕ, ◌+◌, ◌*◌, ◌%◌, ◌^◌, ◌<◌, ◌≤◌, false, List, length, get_or, replicate, sym, ap, ◌∙◌, ⊎_elim, arith, subst, mod-lt, inl, inr}
use Rattle.std.proofs.lemmas.List.{length-replicate}
use Rattle.std.proofs.lemmas.Bool.{cases_lt}
use Rattle.std.proofs.lemmas.Nat.{pow_pos}
use Rattle.bit_lists.proofs.BitLaws.{bits_are_counted, zeros_have_no_ones, zeros_are_zero, read_after_write, item_beside_is_kept, number_beside_is_kept}
use Rattle.bit_lists.specs.Bits.{bits_of, item}
use Rattle.bit_lists.specs.Number.{number_at, with_number}
use Rattle.elias_fano.specs.Parts.{low_words_of, IsLow}

-- the first k fragments hold the l low digits of the first k items, and zeros come after them
pub record HasFragments (xs : List ℕ) (l k : ℕ) (low : List ℕ) : Type 0 where
  pub fragments : (i : ℕ) → i < k → number_at (bits_of low) (i * l) l ≡ get_or xs i 0 % 2 ^ l
  pub zeros : (p : ℕ) → k * l ≤ p → item (bits_of low) p ≡ false

-- the fragment of an item is inside
pub fragment-inside : (xs : List ℕ) (l i : ℕ) (low : List ℕ) → i < length xs → length low ≡ low_words_of xs l → i * l + l ≤ 64 * length low
fragment-inside xs l i low inside is =
    let room : i * l + l ≤ length xs * l = grind arith in
    omega arith

zeros_of : (count : ℕ) (low : List ℕ) → low ≡ replicate count 0 → (p : ℕ) → item (bits_of low) p ≡ false
zeros_of count low is p = ap (λ w. item (bits_of w) p) is ∙ zeros_have_no_ones count p

pub HasFragments-none : (xs : List ℕ) (l count : ℕ) (low : List ℕ) → low ≡ replicate count 0 → HasFragments xs l 0 low
HasFragments-none xs l count low is = record {
  fragments = λ i less. absurd (omega arith);
  zeros = λ p _. zeros_of count low is p;
}

-- the fragment of the next item
pub HasFragments-more : (xs : List ℕ) (l i : ℕ) (old new : List ℕ) → HasFragments xs l i old → i * l + l ≤ 64 * length old
    → bits_of new ≡ with_number (bits_of old) (i * l) l (get_or xs i 0 % 2 ^ l) → HasFragments xs l (i + 1) new
HasFragments-more xs l i old new h room after = record {
  fragments = λ j less. ap (λ b. number_at b (j * l) l) after ∙ ⊎_elim
      (λ below. let e : j * l + l ≤ i * l = grind arith in
      number_beside_is_kept (bits_of old) (i * l) l v (j * l) l within (inl e) ∙ h.fragments j below)
      (λ from. let e : i ≡ j = omega arith in
      let P : ℕ → Type 0 = λ k. number_at (with_number (bits_of old) (i * l) l v) (k * l) l ≡ get_or xs k 0 % 2 ^ l in
      subst P e (read_after_write (bits_of old) (i * l) l v within (mod-lt (get_or xs i 0) (pow_pos l))))
      (cases_lt j i);
  zeros = λ p past.
      let above : i * l + l ≤ p = grind (arith, past) in
      ap (λ b. item b p) after ∙ item_beside_is_kept (bits_of old) (i * l) l v p within (inr above) ∙ h.zeros p (omega arith);
}
  where
    v : ℕ
    v = get_or xs i 0 % 2 ^ l

    within : i * l + l ≤ length (bits_of old)
    within = omega (arith, bits_are_counted old)

-- fragments of no bits
pub IsLow-empty : (xs : List ℕ) (l : ℕ) (low : List ℕ) → l ≡ 0 → low ≡ replicate (low_words_of xs l) 0 → IsLow xs l low
IsLow-empty xs l low none is = record {
  words = ap length is ∙ length-replicate {A = ℕ} (low_words_of xs l) 0;
  fragments = λ i inside.
      let rest : get_or xs i 0 % 2 ^ l ≡ 0 = ap (λ k. get_or xs i 0 % 2 ^ k) none ∙ (let e : get_or xs i 0 % 1 ≡ 0 = omega arith in e) in
      zeros_are_zero (bits_of low) (i * l) l (λ p _ _. zeros_of (low_words_of xs l) low is p) ∙ sym rest;
  after = λ p _. zeros_of (low_words_of xs l) low is p;
}
