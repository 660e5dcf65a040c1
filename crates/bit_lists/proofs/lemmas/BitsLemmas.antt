-- Item i of the list of bits is a digit of a word.
use Rattle.std.proofs.Common.{◌≡◌, ℕ, zero, suc, ◌+◌, ◌-◌, ◌*◌, ◌/◌, ◌%◌, ◌^◌, ◌<◌, Bool, false, not, List, [], ◌∷◌, ◌++◌, length, get_or, eqb, sym, refl, ap, ◌∙◌, ⊎_elim, arith, length-append, bit_and}
use Rattle.std.proofs.lemmas.Bool.{cases_lt}
use Rattle.std.proofs.lemmas.List.{ext_get_or, get_or_append_left, get_or-append_right}
use Rattle.std.proofs.lemmas.Nat.Bits.{bit_at-lt, same_from_bits_below}
use Rattle.std.specs.Int.{bit_at}
use Rattle.std.proofs.lemmas.List.FromFn.{length-map-range_with_len, get_or-map-range_with_len}
use Rattle.bit_lists.proofs.lemmas.WordLemmas.{digit_tested}
use Rattle.bit_lists.specs.Bits.{digit, low_digits, bit_of, bits_of, item}

-- ---- lists

pub length-low_digits : (n v : ℕ) → length (low_digits n v) ≡ n
unfolding low_digits
length-low_digits n v = length-map-range_with_len (digit v) 0 n

pub item-low_digits : (n v j : ℕ) → j < n → item (low_digits n v) j ≡ digit v j
unfolding low_digits
item-low_digits n v j l = get_or-map-range_with_len (digit v) 0 n j j false l (omega arith)

pub length-bits_of : (words : List ℕ) → length (bits_of words) ≡ 64 * length words
unfolding bits_of
length-bits_of words = length-map-range_with_len (bit_of words) 0 (64 * length words)

pub item-bits_of : (words : List ℕ) (i : ℕ) → i < 64 * length words → item (bits_of words) i ≡ bit_of words i
unfolding bits_of
item-bits_of words i l = get_or-map-range_with_len (bit_of words) 0 (64 * length words) i i false l (omega arith)

-- the bit at digit j of word q
pub item-bits_of_at : (words : List ℕ) (i q j : ℕ) → i ≡ 64 * q + j → j < 64 → q < length words → item (bits_of words) i ≡ digit (get_or words q 0) j
item-bits_of_at words i q j e low within =
    let position : i < 64 * length words = omega arith in
    let word : i / 64 ≡ q = omega arith in
    let rest : i % 64 ≡ j = omega arith in
    item-bits_of words i position ∙ ap (λ k. digit (get_or words k 0) (i % 64)) word ∙ ap (digit (get_or words q 0)) rest

pub same_bits : (b c : List Bool) → length b ≡ length c → ((i : ℕ) → i < length b → item b i ≡ item c i) → b ≡ c
same_bits b c = ext_get_or false b c

-- words of 64 bits each are the same where their bits are
pub bits_of-injective : (a b : List ℕ) → ((k : ℕ) → get_or a k 0 < 2 ^ 64) → ((k : ℕ) → get_or b k 0 < 2 ^ 64)
    → bits_of a ≡ bits_of b → a ≡ b
bits_of-injective a b fits_a fits_b same =
    ext_get_or 0 a b len
    (λ q l. same_from_bits_below 64 (get_or a q 0) (get_or b q 0) (fits_a q) (fits_b q)
    (λ j low.
    let i = 64 * q + j in
    by_digit (bit_at (get_or a q 0) j) (bit_at (get_or b q 0) j) (bit_at-lt (get_or a q 0) j) (bit_at-lt (get_or b q 0) j)
    (sym (item-bits_of_at a i q j refl low l) ∙ ap (λ c. item c i) same
    ∙ item-bits_of_at b i q j refl low (omega (arith, len)))))
  where
    len : length a ≡ length b
    len = omega (arith, length-bits_of a, length-bits_of b, ap length same)

    by_digit : (d e : ℕ) → d < 2 → e < 2 → eqb d 1 ≡ eqb e 1 → d ≡ e
    by_digit zero zero l m same = refl
    by_digit zero (suc zero) l m same = cc
    by_digit (suc zero) zero l m same = cc
    by_digit (suc zero) (suc zero) l m same = refl
    by_digit (suc (suc d)) e l m same = absurd (omega arith)
    by_digit zero (suc (suc e)) l m same = absurd (omega arith)
    by_digit (suc zero) (suc (suc e)) l m same = absurd (omega arith)

pub item_tested : (words : List ℕ) (i : ℕ) → i < 64 * length words
    → not (eqb (bit_and (get_or words (i / 64) 0) (1 * 2 ^ (i % 64) % 2 ^ 64)) 0) ≡ item (bits_of words) i
item_tested words i l = digit_tested (get_or words (i / 64) 0) (i % 64) (omega arith) ∙ sym (item-bits_of words i l)

pub bits_of-cons : (w : ℕ) (words : List ℕ) → bits_of (w ∷ words) ≡ low_digits 64 w ++ bits_of words
bits_of-cons w words =
    same_bits (bits_of (w ∷ words)) (low_digits 64 w ++ bits_of words)
    (omega (arith, length-bits_of (w ∷ words), length-append (low_digits 64 w) (bits_of words), length-low_digits 64 w, length-bits_of words))
    (λ i l.
    let within : i < 64 * suc (length words) = omega (arith, length-bits_of (w ∷ words)) in
    ⊎_elim
    (λ first.
    item-bits_of_at (w ∷ words) i 0 i (omega arith) first (omega arith)
    ∙ sym (get_or_append_left (low_digits 64 w) (bits_of words) false i (omega (arith, length-low_digits 64 w)) ∙ item-low_digits 64 w i first))
    (λ later.
    let q = i / 64 - 1 in
    let word : i / 64 ≡ suc q = omega arith in
    let position : i ≡ 64 * suc q + i % 64 = omega arith in
    item-bits_of_at (w ∷ words) i (suc q) (i % 64) position (omega arith) (omega arith)
    ∙ sym (get_or-append_right (low_digits 64 w) (bits_of words) 64 i false (length-low_digits 64 w) later
    ∙ item-bits_of_at words (i - 64) q (i % 64) (omega arith) (omega arith) (omega arith)))
    (cases_lt i 64))

pub bits_of-nil : bits_of [] ≡ []
unfolding bits_of
bits_of-nil = refl
