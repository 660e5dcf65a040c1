-- What the code negates in one or two words is the list of bits with items negated.
use Rattle.std.proofs.Common.{◌≡◌, ℕ, zero, suc, ◌+◌, ◌-◌, ◌*◌, ◌/◌, ◌%◌, ◌^◌, ◌<◌, ◌≤◌, Bool, true, false, cond, not, List, [], ◌∷◌, length, get_or, take, drop, eqb, sym, refl, ap, ◌∙◌, ⊎_elim, arith, length-append, length-drop, length-take, set, bit_xor, subst, ◌⊎◌, inl, inr, length-set}
use Rattle.std.proofs.lemmas.Bool.{cases_lt}
use Rattle.std.proofs.lemmas.List.{get_or-drop, get_or-take, get_or_past, get_or_append_left, get_or-append_right}
use Rattle.std.proofs.lemmas.Nat.Bits.{bit_at-lt, bit_at_above, bit_at_xor}
use Rattle.std.specs.Int.{bit_at}
use Rattle.bit_lists.proofs.lemmas.BitsLemmas.{length-low_digits, item-low_digits, length-bits_of, item-bits_of_at, same_bits}
use Rattle.bit_lists.proofs.lemmas.ReadLemmas.{reach_of_inside, reach_of_across}
use Rattle.bit_lists.proofs.lemmas.SetLemmas.{written_at, written_at_two, length-set_two, between_left}
use Rattle.bit_lists.proofs.lemmas.WordLemmas.{bit_at-shr, bit_at-shl_below, bit_at-shl}
use Rattle.bit_lists.specs.Bits.{digit, low_digits, bits_of, item}
use Rattle.bit_lists.specs.Number.{IsInRange}
use Rattle.bit_lists.specs.Window.{reach_of, negate_where, with_flips}

-- ---- flips

length-negate_where : (ds b : List Bool) → length (negate_where ds b) ≡ length b
length-negate_where [] b = refl
length-negate_where (d ∷ ds) [] = refl
length-negate_where (d ∷ ds) (x ∷ b) = ap suc (length-negate_where ds b)

item-negate_where : (ds b : List Bool) (j : ℕ) → j < length b → item (negate_where ds b) j ≡ cond (item ds j) (not (item b j)) (item b j)
item-negate_where [] b j l = refl
item-negate_where (d ∷ ds) [] j l = absurd (omega arith)
item-negate_where (d ∷ ds) (x ∷ b) zero l = refl
item-negate_where (d ∷ ds) (x ∷ b) (suc j) l = item-negate_where ds b j (omega arith)

pub length-with_flips : (b : List Bool) (s n v : ℕ) → s ≤ length b → length (with_flips b s n v) ≡ length b
unfolding with_flips
length-with_flips b s n v within =
    let rest = negate_where (low_digits (reach_of s n) v) (drop s b) in
    omega (arith, length-append (take s b) rest, length-take s b, length-negate_where (low_digits (reach_of s n) v) (drop s b), length-drop s b)

pub item-with_flips_below : (b : List Bool) (s n v i : ℕ) → s ≤ length b → i < s → item (with_flips b s n v) i ≡ item b i
unfolding with_flips
item-with_flips_below b s n v i within l =
    get_or_append_left (take s b) (negate_where (low_digits (reach_of s n) v) (drop s b)) false i (omega (arith, length-take s b))
    ∙ get_or-take s b i false l

pub item-with_flips_from : (b : List Bool) (s n v k : ℕ) → s + k < length b
    → item (with_flips b s n v) (s + k) ≡ cond (item (low_digits (reach_of s n) v) k) (not (item b (s + k))) (item b (s + k))
unfolding with_flips
item-with_flips_from b s n v k within =
    let ds = low_digits (reach_of s n) v in
    get_or-append_right (take s b) (negate_where ds (drop s b)) s (s + k) false (omega (arith, length-take s b)) (omega arith)
    ∙ ap (item (negate_where ds (drop s b))) (let e : s + k - s ≡ k = omega arith in e)
    ∙ item-negate_where ds (drop s b) k (omega (arith, length-drop s b))
    ∙ ap (λ x. cond (item ds k) (not x) x) (get_or-drop s b k false)

pub item-with_flips_inside : (b : List Bool) (s n v k : ℕ) → s + k < length b → k < reach_of s n
    → item (with_flips b s n v) (s + k) ≡ cond (digit v k) (not (item b (s + k))) (item b (s + k))
item-with_flips_inside b s n v k within l =
    item-with_flips_from b s n v k within ∙ ap (λ d. cond d (not (item b (s + k))) (item b (s + k))) (item-low_digits (reach_of s n) v k l)

pub item-with_flips_above : (b : List Bool) (s n v k : ℕ) → s + k < length b → reach_of s n ≤ k → item (with_flips b s n v) (s + k) ≡ item b (s + k)
item-with_flips_above b s n v k within l =
    item-with_flips_from b s n v k within
    ∙ ap (λ d. cond d (not (item b (s + k))) (item b (s + k))) (get_or_past (low_digits (reach_of s n) v) k false (omega (arith, length-low_digits (reach_of s n) v)))

-- the digit of a sum without carry
digit_of_xor : (d e : ℕ) → d < 2 → e < 2 → eqb ((d + e) % 2) 1 ≡ cond (eqb e 1) (not (eqb d 1)) (eqb d 1)
digit_of_xor zero zero l m = refl
digit_of_xor zero (suc zero) l m = refl
digit_of_xor (suc zero) zero l m = refl
digit_of_xor (suc zero) (suc zero) l m = refl
digit_of_xor (suc (suc d)) e l m = absurd (omega arith)
digit_of_xor zero (suc (suc e)) l m = absurd (omega arith)
digit_of_xor (suc zero) (suc (suc e)) l m = absurd (omega arith)

-- word q of a content after the m bits from s on were flipped by v
pub record IsFlippedWord (old new s m v q : ℕ) : Type 0 where
  pub inside : (k j : ℕ) → k < m → s + k ≡ 64 * q + j → j < 64 → bit_at new j ≡ (bit_at old j + bit_at v k) % 2
  pub below : (j : ℕ) → j < 64 → 64 * q + j < s → bit_at new j ≡ bit_at old j
  pub above : (j : ℕ) → j < 64 → s + m ≤ 64 * q + j → bit_at new j ≡ bit_at old j

pub bits_of_is_with_flips : (old new : List ℕ) (s n v m : ℕ) → length new ≡ length old → s < 64 * length old → reach_of s n ≡ m
    → ((q : ℕ) → q < length old → IsFlippedWord (get_or old q 0) (get_or new q 0) s m v q)
    → bits_of new ≡ with_flips (bits_of old) s n v
bits_of_is_with_flips old new s n v m len within far each =
    same_bits (bits_of new) (with_flips (bits_of old) s n v) (omega (arith, length-bits_of new, length-bits_of old, length-with_flips (bits_of old) s n v room))
    (λ i l.
    let q = i / 64 in
    let j = i % 64 in
    let position : i ≡ 64 * q + j = omega arith in
    let low : j < 64 = omega arith in
    let word : q < length old = omega (arith, length-bits_of new) in
    let now : item (bits_of new) i ≡ digit (get_or new q 0) j = item-bits_of_at new i q j position low (omega arith) in
    let was : item (bits_of old) i ≡ digit (get_or old q 0) j = item-bits_of_at old i q j position low word in
    let here = each q word in
    ⊎_elim
    (λ before. now ∙ ap (λ d. eqb d 1) (here.below j low (omega arith)) ∙ sym was ∙ sym (item-with_flips_below (bits_of old) s n v i room before))
    (λ from.
    let k = i - s in
    let at : s + k ≡ i = omega arith in
    let still : s + k < length (bits_of old) = omega (arith, length-bits_of new, length-bits_of old) in
    ⊎_elim
    (λ near.
    now ∙ ap (λ d. eqb d 1) (here.inside k j near (omega arith) low)
    ∙ digit_of_xor (bit_at (get_or old q 0) j) (bit_at v k) (bit_at-lt (get_or old q 0) j) (bit_at-lt v k)
    ∙ ap (λ x. cond (digit v k) (not x) x) (sym was)
    ∙ ap (λ a. cond (digit v k) (not (item (bits_of old) a)) (item (bits_of old) a)) (sym at)
    ∙ sym (item-with_flips_inside (bits_of old) s n v k still (omega arith))
    ∙ ap (item (with_flips (bits_of old) s n v)) at)
    (λ past.
    now ∙ ap (λ d. eqb d 1) (here.above j low (omega arith)) ∙ sym was
    ∙ ap (item (bits_of old)) (sym at)
    ∙ sym (item-with_flips_above (bits_of old) s n v k still (omega arith))
    ∙ ap (item (with_flips (bits_of old) s n v)) at)
    (cases_lt k m))
    (cases_lt i s))
  where
    room : s ≤ length (bits_of old)
    room = omega (arith, length-bits_of old)

-- ---- flips

unflipped : (old s m v q : ℕ) → (64 * q + 64 ≤ s) ⊎ (s + m ≤ 64 * q) → IsFlippedWord old old s m v q
unflipped old s m v q apart = record {
  inside = λ k j l e low. absurd (⊎_elim (λ a. omega arith) (λ a. omega arith) apart);
  below = λ j low l. refl;
  above = λ j low l. refl;
}

-- `word ^ (v << offset)`
first_flipped : (old s m v q r : ℕ) → s ≡ 64 * q + r → r < 64 → 64 - r ≤ m → IsFlippedWord old (bit_xor old (v * 2 ^ r % 2 ^ 64)) s m v q
first_flipped old s m v q r start low_r far = record {
  inside = λ k j l e low.
      let x : bit_at (v * 2 ^ r % 2 ^ 64) j ≡ bit_at v k = bit_at-shl v r 64 j k low (omega arith) in
      bit_at_xor old (v * 2 ^ r % 2 ^ 64) j ∙ ap (λ d. (bit_at old j + d) % 2) x;
  below = λ j low l.
      let x : bit_at (v * 2 ^ r % 2 ^ 64) j ≡ 0 = bit_at-shl_below v r 64 j low (omega arith) in
      omega (arith, bit_at_xor old (v * 2 ^ r % 2 ^ 64) j, x, bit_at-lt old j);
  above = λ j low l. absurd (omega arith);
}

-- `word ^ (v >> shift)`
second_flipped : (old s v q shift : ℕ) → s + shift ≡ 64 * q → v < 2 ^ 64 → IsFlippedWord old (bit_xor old (v / 2 ^ shift)) s 64 v q
second_flipped old s v q shift start fits = record {
  inside = λ k j l e low.
      let x : bit_at (v / 2 ^ shift) j ≡ bit_at v k = bit_at-shr v shift j k (omega arith) in
      bit_at_xor old (v / 2 ^ shift) j ∙ ap (λ d. (bit_at old j + d) % 2) x;
  below = λ j low l. absurd (omega arith);
  above = λ j low l.
      let x : bit_at (v / 2 ^ shift) j ≡ 0 = bit_at-shr v shift j (shift + j) refl ∙ bit_at_above v 64 (shift + j) fits (omega arith) in
      omega (arith, bit_at_xor old (v / 2 ^ shift) j, x, bit_at-lt old j);
}

-- what `xor_bits` leaves
pub xor_bits_within : (words : List ℕ) (s n v : ℕ) → IsInRange words s n → s % 64 + n ≤ 64
    → bits_of (set words (s / 64) (bit_xor (get_or words (s / 64) 0) (v * 2 ^ (s % 64) % 2 ^ 64))) ≡ with_flips (bits_of words) s n v
xor_bits_within words s n v h inside =
    bits_of_is_with_flips words (set words p y) s n v (64 - r) (length-set words p y) h.0 (reach_of_inside s n inside)
    (λ q within. written_at (λ k old new. IsFlippedWord old new s (64 - r) v k) words p y q within
    (first_flipped (get_or words p 0) s (64 - r) v p r (omega arith) (omega arith) (omega arith))
    (λ apart. unflipped (get_or words q 0) s (64 - r) v q
    (⊎_elim (λ before. inl (omega arith)) (λ after. inr (omega arith)) (cases_lt q p))))
  where
    p : ℕ
    p = s / 64

    r : ℕ
    r = s % 64

    y : ℕ
    y = bit_xor (get_or words (s / 64) 0) (v * 2 ^ (s % 64) % 2 ^ 64)

pub xor_bits_across : (words between : List ℕ) (s n v : ℕ) → IsInRange words s n → 64 < s % 64 + n → n ≤ 64 → v < 2 ^ 64
    → between ≡ set words (s / 64 + 1) (bit_xor (get_or words (s / 64 + 1) 0) (v / 2 ^ (64 - s % 64)))
    → bits_of (set between (s / 64) (bit_xor (get_or between (s / 64) 0) (v * 2 ^ (s % 64) % 2 ^ 64))) ≡ with_flips (bits_of words) s n v
xor_bits_across words between s n v h across small fits step =
    ap (λ b. bits_of (set b p (bit_xor (get_or between p 0) z))) step
    ∙ ap (λ w. bits_of (set (set words (p + 1) x) p (bit_xor w z))) (between_left words between p x step)
    ∙ bits_of_is_with_flips words (set (set words (p + 1) x) p y) s n v 64 (length-set_two words p x y) h.0
    (reach_of_across s n across)
    (λ q within. written_at_two (λ k old new. IsFlippedWord old new s 64 v k) words p x y q within
    (second_flipped (get_or words (p + 1) 0) s v (p + 1) (64 - s % 64) (omega arith) fits)
    (first_flipped (get_or words p 0) s 64 v p (s % 64) (omega arith) (omega arith) (omega arith))
    (λ apart also. unflipped (get_or words q 0) s 64 v q
    (⊎_elim (λ before. inl (omega arith)) (λ after. inr (omega arith)) (cases_lt q p))))
  where
    p : ℕ
    p = s / 64

    z : ℕ
    z = v * 2 ^ (s % 64) % 2 ^ 64

    x : ℕ
    x = bit_xor (get_or words (s / 64 + 1) 0) (v / 2 ^ (64 - s % 64))

    y : ℕ
    y = bit_xor (get_or words (s / 64) 0) (v * 2 ^ (s % 64) % 2 ^ 64)

-- to flip twice is to leave
twice : (d x : Bool) → cond d (not (cond d (not x) x)) (cond d (not x) x) ≡ x
twice true true = refl
twice true false = refl
twice false x = refl

pub with_flips-with_flips : (b : List Bool) (s n v : ℕ) → s ≤ length b → with_flips (with_flips b s n v) s n v ≡ b
with_flips-with_flips b s n v within =
    same_bits (with_flips (with_flips b s n v) s n v) b (len)
    (λ i l.
    ⊎_elim
    (λ before. item-with_flips_below (with_flips b s n v) s n v i (omega (arith, one)) before ∙ item-with_flips_below b s n v i within before)
    (λ from.
    let k = i - s in
    let at : s + k ≡ i = omega arith in
    let d = item (low_digits (reach_of s n) v) k in
    let inside : s + k < length b = omega (arith, len) in
    let P : ℕ → Type 0 = λ j. item (with_flips (with_flips b s n v) s n v) j ≡ item b j in
    subst P at
    (item-with_flips_from (with_flips b s n v) s n v k (omega (arith, one))
    ∙ ap (λ x. cond d (not x) x) (item-with_flips_from b s n v k inside)
    ∙ twice d (item b (s + k))))
    (cases_lt i s))
  where
    one : length (with_flips b s n v) ≡ length b
    one = length-with_flips b s n v within

    len : length (with_flips (with_flips b s n v) s n v) ≡ length b
    len = length-with_flips (with_flips b s n v) s n v (omega (arith, one)) ∙ one
