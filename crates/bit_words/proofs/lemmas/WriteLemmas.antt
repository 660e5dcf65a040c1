-- What the code writes to one or two words is the list of bits with a number put in.
use Rattle.std.proofs.Common.{mod-eq_of_lt, ◌≡◌, ℕ, ◌+◌, ◌-◌, ◌*◌, ◌/◌, ◌%◌, ◌^◌, ◌<◌, ◌≤◌, List, length, get_or, eqb, sym, refl, ap, ◌∙◌, ⊎_elim, arith, w64, ◌≢◌, set, bit_and, bit_or, subst, pow_mono, ◌⊎◌, inl, inr, length-set}
use Rattle.std.proofs.lemmas.Bool.{cases_lt}
use Rattle.std.proofs.lemmas.Nat.{pow_pos, shr_le}
use Rattle.std.proofs.lemmas.Nat.Bits.{bit_at_lowest, bit_at_set_same, bit_at_set_other, bit_at_clear_same, bit_at_clear_other, bit_at-lt, bit_at_above, bit_at_ones, bit_at_ones_above}
use Rattle.std.specs.Int.{bit_at, bit_not}
use Rattle.bit_lists.proofs.lemmas.BitsLemmas.{length-bits_of, item-bits_of_at, same_bits}
use Rattle.bit_lists.proofs.lemmas.NumberLemmas.{length-with_number, item-with_number_below, item-with_number_inside, item-with_number_above}
use Rattle.bit_lists.proofs.lemmas.SetLemmas.{written_at, written_at_two, length-set_two}
use Rattle.bit_lists.proofs.lemmas.WordLemmas.{bit_at-shr, bit_at-shl_below, bit_at-shl, bit_at-replaced}
use Rattle.bit_lists.specs.Bits.{digit, bits_of, item}
use Rattle.bit_lists.specs.Number.{with_number, IsInRange}

-- word q of a content after v was put at bits s to s + n - 1, old before and new after
pub record IsPutWord (old new s n v q : ℕ) : Type 0 where
  pub inside : (k j : ℕ) → k < n → s + k ≡ 64 * q + j → j < 64 → bit_at new j ≡ bit_at v k
  pub below : (j : ℕ) → j < 64 → 64 * q + j < s → bit_at new j ≡ bit_at old j
  pub above : (j : ℕ) → j < 64 → s + n ≤ 64 * q + j → bit_at new j ≡ bit_at old j

pub bits_of_is_with_number : (old new : List ℕ) (s n v : ℕ) → length new ≡ length old → s + n ≤ 64 * length old
    → ((q : ℕ) → q < length old → IsPutWord (get_or old q 0) (get_or new q 0) s n v q)
    → bits_of new ≡ with_number (bits_of old) s n v
bits_of_is_with_number old new s n v len within each =
    same_bits (bits_of new) (with_number (bits_of old) s n v) (omega (arith, length-bits_of new, length-bits_of old, length-with_number (bits_of old) s n v room))
    (λ i l.
    let q = i / 64 in
    let j = i % 64 in
    let position : i ≡ 64 * q + j = omega arith in
    let low : j < 64 = omega arith in
    let word : q < length old = omega (arith, length-bits_of new) in
    let now : item (bits_of new) i ≡ digit (get_or new q 0) j = item-bits_of_at new i q j position low (omega arith) in
    let was : item (bits_of old) i ≡ digit (get_or old q 0) j = item-bits_of_at old i q j position low word in
    let here = each q word in
    ⊎_elim
    (λ before. now ∙ ap (λ d. eqb d 1) (here.below j low (omega arith)) ∙ sym was ∙ sym (item-with_number_below (bits_of old) s n v i room before))
    (λ from. ⊎_elim
    (λ in_range.
    let k = i - s in
    let at : s + k ≡ i = omega arith in
    now ∙ ap (λ d. eqb d 1) (here.inside k j (omega arith) (omega arith) low)
    ∙ sym (ap (item (with_number (bits_of old) s n v)) (sym at) ∙ item-with_number_inside (bits_of old) s n v k room (omega arith)))
    (λ past. now ∙ ap (λ d. eqb d 1) (here.above j low (omega arith)) ∙ sym was ∙ sym (item-with_number_above (bits_of old) s n v i room past))
    (cases_lt i (s + n)))
    (cases_lt i s))
  where
    room : s + n ≤ length (bits_of old)
    room = omega (arith, length-bits_of old)

untouched : (old s n v q : ℕ) → (64 * q + 64 ≤ s) ⊎ (s + n ≤ 64 * q) → IsPutWord old old s n v q
untouched old s n v q apart = record {
  inside = λ k j l e low. absurd (⊎_elim (λ a. omega arith) (λ a. omega arith) apart);
  below = λ j low l. refl;
  above = λ j low l. refl;
}

-- the first word of the range: `v << offset` in the place of `mask << offset`
first_word : (old s n v q r : ℕ) → s ≡ 64 * q + r → r < 64 → v < 2 ^ n
    → IsPutWord old (bit_or (bit_and old (bit_not w64 ((2 ^ n - 1) * 2 ^ r % 2 ^ 64))) (v * 2 ^ r % 2 ^ 64)) s n v q
first_word old s n v q r start low_r fits = record {
  inside = λ k j l e low.
      let m : bit_at mask j ≡ 1 = bit_at-shl (2 ^ n - 1) r 64 j k low (omega arith) ∙ bit_at_ones n k l in
      let x : bit_at value j ≡ bit_at v k = bit_at-shl v r 64 j k low (omega arith) in
      omega (arith, bit_at-replaced old mask value j mask_fits low, m, x, bit_at-lt old j);
  below = λ j low l.
      let m : bit_at mask j ≡ 0 = bit_at-shl_below (2 ^ n - 1) r 64 j low (omega arith) in
      let x : bit_at value j ≡ 0 = bit_at-shl_below v r 64 j low (omega arith) in
      omega (arith, bit_at-replaced old mask value j mask_fits low, m, x, bit_at-lt old j);
  above = λ j low l.
      let m : bit_at mask j ≡ 0 = bit_at-shl (2 ^ n - 1) r 64 j (j - r) low (omega arith) ∙ bit_at_ones_above n (j - r) (omega arith) in
      let x : bit_at value j ≡ 0 = bit_at-shl v r 64 j (j - r) low (omega arith) ∙ bit_at_above v n (j - r) fits (omega arith) in
      omega (arith, bit_at-replaced old mask value j mask_fits low, m, x, bit_at-lt old j);
}
  where
    mask : ℕ
    mask = (2 ^ n - 1) * 2 ^ r % 2 ^ 64

    value : ℕ
    value = v * 2 ^ r % 2 ^ 64

    mask_fits : (2 ^ n - 1) * 2 ^ r % 2 ^ 64 < 2 ^ 64
    mask_fits = omega arith

-- the second word of a range that crosses a border: `v >> shift` in the place of `mask >> shift`
second_word : (old s n v q shift : ℕ) → s + shift ≡ 64 * q → v < 2 ^ n → n ≤ 64
    → IsPutWord old (bit_or (bit_and old (bit_not w64 ((2 ^ n - 1) / 2 ^ shift))) (v / 2 ^ shift)) s n v q
second_word old s n v q shift start fits small = record {
  inside = λ k j l e low.
      let m : bit_at mask j ≡ 1 = bit_at-shr (2 ^ n - 1) shift j k (omega arith) ∙ bit_at_ones n k l in
      let x : bit_at value j ≡ bit_at v k = bit_at-shr v shift j k (omega arith) in
      omega (arith, bit_at-replaced old mask value j mask_fits low, m, x, bit_at-lt old j);
  below = λ j low l. absurd (omega arith);
  above = λ j low l.
      let m : bit_at mask j ≡ 0 = bit_at-shr (2 ^ n - 1) shift j (shift + j) refl ∙ bit_at_ones_above n (shift + j) (omega arith) in
      let x : bit_at value j ≡ 0 = bit_at-shr v shift j (shift + j) refl ∙ bit_at_above v n (shift + j) fits (omega arith) in
      omega (arith, bit_at-replaced old mask value j mask_fits low, m, x, bit_at-lt old j);
}
  where
    mask : ℕ
    mask = (2 ^ n - 1) / 2 ^ shift

    value : ℕ
    value = v / 2 ^ shift

    mask_fits : (2 ^ n - 1) / 2 ^ shift < 2 ^ 64
    mask_fits = omega (arith, shr_le (2 ^ n - 1) shift, pow_mono small, pow_pos n)

-- a word of which just one digit changed
pub one_bit_set : (words : List ℕ) (i y d : ℕ) → i < 64 * length words → d < 2 → bit_at y (i % 64) ≡ d
    → ((j : ℕ) → j < 64 → j ≢ i % 64 → bit_at y j ≡ bit_at (get_or words (i / 64) 0) j)
    → bits_of (set words (i / 64) y) ≡ with_number (bits_of words) i 1 d
one_bit_set words i y d inside small there elsewhere =
    bits_of_is_with_number words (set words (i / 64) y) i 1 d (length-set words (i / 64) y) (omega arith)
    (λ q within. written_at (λ k old new. IsPutWord old new i 1 d k) words (i / 64) y q within
    (record {
      inside = λ k j l e low.
          let at : j ≡ i % 64 = omega arith in
          let lowest : k ≡ 0 = omega arith in
          ap (bit_at y) at ∙ there ∙ sym (ap (bit_at d) lowest ∙ bit_at_lowest d ∙ mod-eq_of_lt small);
      below = λ j low l. elsewhere j low (λ e. omega arith);
      above = λ j low l. elsewhere j low (λ e. omega arith);
    })
    (λ apart. untouched (get_or words q 0) i 1 d q
    (⊎_elim (λ before. inl (omega arith)) (λ after. inr (omega arith)) (cases_lt q (i / 64)))))

-- `word | 1 << offset` and `word & !(1 << offset)`
pub bit_set : (words : List ℕ) (i : ℕ) → i < 64 * length words
    → bits_of (set words (i / 64) (bit_or (get_or words (i / 64) 0) (1 * 2 ^ (i % 64) % 2 ^ 64))) ≡ with_number (bits_of words) i 1 1
bit_set words i inside =
    let low : i % 64 < 64 = omega arith in
    one_bit_set words i _ 1 inside (omega arith) (bit_at_set_same w64 (get_or words (i / 64) 0) (i % 64) low)
    (λ j small apart. bit_at_set_other w64 (get_or words (i / 64) 0) (i % 64) low j apart)

pub bit_cleared : (words : List ℕ) (i : ℕ) → i < 64 * length words
    → bits_of (set words (i / 64) (bit_and (get_or words (i / 64) 0) (bit_not w64 (1 * 2 ^ (i % 64) % 2 ^ 64)))) ≡ with_number (bits_of words) i 1 0
bit_cleared words i inside =
    let low : i % 64 < 64 = omega arith in
    one_bit_set words i _ 0 inside (omega arith) (bit_at_clear_same w64 (get_or words (i / 64) 0) (i % 64) low)
    (λ j small apart. bit_at_clear_other w64 (get_or words (i / 64) 0) (i % 64) low j small apart)

-- a write to one word
pub put_in_one_word : (words : List ℕ) (s n v y : ℕ) → IsInRange words s n → s % 64 + n ≤ 64
    → IsPutWord (get_or words (s / 64) 0) y s n v (s / 64)
    → bits_of (set words (s / 64) y) ≡ with_number (bits_of words) s n v
put_in_one_word words s n v y h inside at =
    bits_of_is_with_number words (set words (s / 64) y) s n v (length-set words (s / 64) y) (omega arith)
    (λ q within. written_at (λ k old new. IsPutWord old new s n v k) words (s / 64) y q within at
    (λ apart. untouched (get_or words q 0) s n v q (away q apart)))
  where
    away : (q : ℕ) → q ≢ s / 64 → (64 * q + 64 ≤ s) ⊎ (s + n ≤ 64 * q)
    away q apart = ⊎_elim (λ before. inl (omega arith)) (λ after. inr (omega arith)) (cases_lt q (s / 64))

-- a write to two words, the second first
pub put_in_two_words : (words : List ℕ) (s n v x y : ℕ) → IsInRange words s n → 64 < s % 64 + n → n ≤ 64
    → IsPutWord (get_or words (s / 64 + 1) 0) x s n v (s / 64 + 1)
    → IsPutWord (get_or words (s / 64) 0) y s n v (s / 64)
    → bits_of (set (set words (s / 64 + 1) x) (s / 64) y) ≡ with_number (bits_of words) s n v
put_in_two_words words s n v x y h across small second first =
    bits_of_is_with_number words (set (set words (p + 1) x) p y) s n v (length-set_two words p x y) (omega arith)
    (λ q within. written_at_two (λ k old new. IsPutWord old new s n v k) words p x y q within second first
    (λ apart also. untouched (get_or words q 0) s n v q (away q apart also)))
  where
    p : ℕ
    p = s / 64

    away : (q : ℕ) → q ≢ p → q ≢ p + 1 → (64 * q + 64 ≤ s) ⊎ (s + n ≤ 64 * q)
    away q apart also = ⊎_elim (λ before. inl (omega arith)) (λ after. inr (omega arith)) (cases_lt q p)

-- what `set_bits` leaves, with the mask and the words between its two writes as the code has them
pub set_bits_within : (words : List ℕ) (s n v mask y : ℕ) → IsInRange words s n → s % 64 + n ≤ 64 → v < 2 ^ n → mask ≡ 2 ^ n - 1
    → y ≡ bit_or (bit_and (get_or words (s / 64) 0) (bit_not w64 (mask * 2 ^ (s % 64) % 2 ^ 64))) (v * 2 ^ (s % 64) % 2 ^ 64)
    → bits_of (set words (s / 64) y) ≡ with_number (bits_of words) s n v
set_bits_within words s n v mask y h inside fits low is =
    put_in_one_word words s n v y h inside
    (let P : ℕ → Type 0 = λ z. IsPutWord (get_or words p 0) z s n v p in
    let masked = ap (λ m. bit_or (bit_and (get_or words p 0) (bit_not w64 (m * 2 ^ (s % 64) % 2 ^ 64))) (v * 2 ^ (s % 64) % 2 ^ 64)) low in
    subst P (sym (is ∙ masked)) (first_word (get_or words p 0) s n v p (s % 64) (omega arith) (omega arith) fits))
  where
    p : ℕ
    p = s / 64

pub set_bits_across : (words between : List ℕ) (s n v mask x y : ℕ) → IsInRange words s n → 64 < s % 64 + n → n ≤ 64 → v < 2 ^ n → mask ≡ 2 ^ n - 1
    → between ≡ set words (s / 64 + 1) x
    → x ≡ bit_or (bit_and (get_or words (s / 64 + 1) 0) (bit_not w64 (mask / 2 ^ (64 - s % 64)))) (v / 2 ^ (64 - s % 64))
    → y ≡ bit_or (bit_and (get_or words (s / 64) 0) (bit_not w64 (mask * 2 ^ (s % 64) % 2 ^ 64))) (v * 2 ^ (s % 64) % 2 ^ 64)
    → bits_of (set between (s / 64) y) ≡ with_number (bits_of words) s n v
set_bits_across words between s n v mask x y h across small fits low step is_x is_y =
    ap (λ b. bits_of (set b p y)) step
    ∙ put_in_two_words words s n v x y h across small
    (let P : ℕ → Type 0 = λ z. IsPutWord (get_or words (p + 1) 0) z s n v (p + 1) in
    let masked = ap (λ m. bit_or (bit_and (get_or words (p + 1) 0) (bit_not w64 (m / 2 ^ (64 - s % 64)))) (v / 2 ^ (64 - s % 64))) low in
    subst P (sym (is_x ∙ masked)) (second_word (get_or words (p + 1) 0) s n v (p + 1) (64 - s % 64) (omega arith) fits small))
    (let P : ℕ → Type 0 = λ z. IsPutWord (get_or words p 0) z s n v p in
    let masked = ap (λ m. bit_or (bit_and (get_or words p 0) (bit_not w64 (m * 2 ^ (s % 64) % 2 ^ 64))) (v * 2 ^ (s % 64) % 2 ^ 64)) low in
    subst P (sym (is_y ∙ masked)) (first_word (get_or words p 0) s n v p (s % 64) (omega arith) (omega arith) fits))
  where
    p : ℕ
    p = s / 64
