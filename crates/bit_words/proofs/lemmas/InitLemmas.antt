-- What the code leaves where it joins a number to bits that are zeros or already that number.
use Rattle.std.proofs.Common.{◌≡◌, ℕ, ◌+◌, ◌-◌, ◌*◌, ◌/◌, ◌%◌, ◌^◌, ◌<◌, ◌≤◌, Bool, true, false, cond, List, length, get_or, sym, refl, ap, ◌∙◌, ⊎_elim, arith, set, bit_or, ◌⊎◌, inl, inr}
use Rattle.std.proofs.lemmas.Nat.Bits.{bit_at-zero, bit_at_above, bit_at_or}
use Rattle.std.specs.Int.{bit_at}
use Rattle.bit_lists.proofs.lemmas.NumberLemmas.{bit_at-number_at-bits_of, number_at-one}
use Rattle.bit_lists.proofs.lemmas.BitsLemmas.{length-bits_of}
use Rattle.bit_lists.proofs.lemmas.SetLemmas.{between_left}
use Rattle.bit_lists.proofs.lemmas.WordLemmas.{truth, bit_at-shr, bit_at-shl_below, bit_at-shl}
use Rattle.bit_words.proofs.lemmas.WriteLemmas.{IsPutWord, put_in_one_word, put_in_two_words}
use Rattle.bit_lists.specs.Bits.{bits_of, item}
use Rattle.bit_lists.specs.Number.{number_at, with_number, IsInRange}
use mir.Val.{bool_byte}

-- the n bits from s on have no one that v lacks, as far as they stand in word q
abbrev IsClearWord : ℕ → ℕ → ℕ → ℕ → ℕ → Type 0
IsClearWord old s n v q = (k j : ℕ) → k < n → s + k ≡ 64 * q + j → j < 64 → bit_at old j ≤ bit_at v k

-- what is 0 or v has no one that v lacks
clear_word : (words : List ℕ) (s n v q : ℕ) → (number_at (bits_of words) s n ≡ 0) ⊎ (number_at (bits_of words) s n ≡ v) → q < length words
    → IsClearWord (get_or words q 0) s n v q
clear_word words s n v q clear within k j l e low =
    let here = bit_at-number_at-bits_of words s n k q j l e low within in
    ⊎_elim
    (λ zeros. let none : bit_at (get_or words q 0) j ≡ 0 = sym here ∙ ap (λ x. bit_at x k) zeros ∙ bit_at-zero k in omega arith)
    (λ already. let same : bit_at (get_or words q 0) j ≡ bit_at v k = sym here ∙ ap (λ x. bit_at x k) already in omega arith)
    clear

-- the first word of the range: `word | v << offset`
first_joined : (old s n v q r : ℕ) → s ≡ 64 * q + r → r < 64 → v < 2 ^ n → IsClearWord old s n v q
    → IsPutWord old (bit_or old (v * 2 ^ r % 2 ^ 64)) s n v q
first_joined old s n v q r start low_r fits clear = record {
  inside = λ k j l e low.
      let x : bit_at value j ≡ bit_at v k = bit_at-shl v r 64 j k low (omega arith) in
      omega (arith, bit_at_or old value j, x, clear k j l e low);
  below = λ j low l.
      let x : bit_at value j ≡ 0 = bit_at-shl_below v r 64 j low (omega arith) in
      omega (arith, bit_at_or old value j, x);
  above = λ j low l.
      let x : bit_at value j ≡ 0 = bit_at-shl v r 64 j (j - r) low (omega arith) ∙ bit_at_above v n (j - r) fits (omega arith) in
      omega (arith, bit_at_or old value j, x);
}
  where
    value : ℕ
    value = v * 2 ^ r % 2 ^ 64

-- the second word of a range that crosses a border: `word | v >> shift`
second_joined : (old s n v q shift : ℕ) → s + shift ≡ 64 * q → v < 2 ^ n → IsClearWord old s n v q
    → IsPutWord old (bit_or old (v / 2 ^ shift)) s n v q
second_joined old s n v q shift start fits clear = record {
  inside = λ k j l e low.
      let x : bit_at (v / 2 ^ shift) j ≡ bit_at v k = bit_at-shr v shift j k (omega arith) in
      omega (arith, bit_at_or old (v / 2 ^ shift) j, x, clear k j l e low);
  below = λ j low l. absurd (omega arith);
  above = λ j low l.
      let x : bit_at (v / 2 ^ shift) j ≡ 0 = bit_at-shr v shift j (shift + j) refl ∙ bit_at_above v n (shift + j) fits (omega arith) in
      omega (arith, bit_at_or old (v / 2 ^ shift) j, x);
}

-- what `init_bits` leaves where one word has the range
pub init_bits_within : (words : List ℕ) (s n v : ℕ) → IsInRange words s n → s % 64 + n ≤ 64 → v < 2 ^ n
    → (number_at (bits_of words) s n ≡ 0) ⊎ (number_at (bits_of words) s n ≡ v)
    → bits_of (set words (s / 64) (bit_or (get_or words (s / 64) 0) (v * 2 ^ (s % 64) % 2 ^ 64))) ≡ with_number (bits_of words) s n v
init_bits_within words s n v h inside fits clear =
    put_in_one_word words s n v _ h inside
    (first_joined (get_or words (s / 64) 0) s n v (s / 64) (s % 64) (omega arith) (omega arith) fits
    (clear_word words s n v (s / 64) clear (omega arith)))

-- and where two words have it
pub init_bits_across : (words between : List ℕ) (s n v : ℕ) → IsInRange words s n → 64 < s % 64 + n → n ≤ 64 → v < 2 ^ n
    → (number_at (bits_of words) s n ≡ 0) ⊎ (number_at (bits_of words) s n ≡ v)
    → between ≡ set words (s / 64 + 1) (bit_or (get_or words (s / 64 + 1) 0) (v / 2 ^ (64 - s % 64)))
    → bits_of (set between (s / 64) (bit_or (get_or between (s / 64) 0) (v * 2 ^ (s % 64) % 2 ^ 64)))
    ≡ with_number (bits_of words) s n v
init_bits_across words between s n v h across small fits clear step =
    ap (λ b. bits_of (set b p (bit_or (get_or between p 0) z))) step
    ∙ ap (λ w. bits_of (set (set words (p + 1) x) p (bit_or w z))) (between_left words between p x step)
    ∙ put_in_two_words words s n v x (bit_or (get_or words p 0) z) h across small
    (second_joined (get_or words (p + 1) 0) s n v (p + 1) (64 - s % 64) (omega arith) fits
    (clear_word words s n v (p + 1) clear (omega arith)))
    (first_joined (get_or words p 0) s n v p (s % 64) (omega arith) (omega arith) fits
    (clear_word words s n v p clear (omega arith)))
  where
    p : ℕ
    p = s / 64

    z : ℕ
    z = v * 2 ^ (s % 64) % 2 ^ 64

    x : ℕ
    x = bit_or (get_or words (s / 64 + 1) 0) (v / 2 ^ (64 - s % 64))

-- `word | value << offset`
pub bit_joined : (words : List ℕ) (i : ℕ) (x : Bool) → i < 64 * length words
    → (item (bits_of words) i ≡ false) ⊎ (item (bits_of words) i ≡ x)
    → bits_of (set words (i / 64) (bit_or (get_or words (i / 64) 0) (bool_byte x * 2 ^ (i % 64) % 2 ^ 64)))
    ≡ with_number (bits_of words) i 1 (cond x 1 0)
bit_joined words i x l clear =
    by x (⊎_elim (λ zero. inl (one ∙ ap truth zero)) (λ already. inr (one ∙ ap truth already)) clear)
  where
    one : number_at (bits_of words) i 1 ≡ truth (item (bits_of words) i)
    one = number_at-one (bits_of words) i (omega (arith, length-bits_of words))

    by : (x : Bool) → (number_at (bits_of words) i 1 ≡ 0) ⊎ (number_at (bits_of words) i 1 ≡ truth x)
        → bits_of (set words (i / 64) (bit_or (get_or words (i / 64) 0) (bool_byte x * 2 ^ (i % 64) % 2 ^ 64)))
        ≡ with_number (bits_of words) i 1 (cond x 1 0)
    by true c = init_bits_within words i 1 1 (l, omega arith) (omega arith) (omega arith) c
    by false c = init_bits_within words i 1 0 (l, omega arith) (omega arith) (omega arith) c
