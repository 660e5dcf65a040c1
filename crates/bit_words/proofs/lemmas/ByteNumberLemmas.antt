-- The bits of bytes, and the little-endian number of a few bytes in a row.
use Rattle.std.proofs.Common.{◌≡◌, ℕ, zero, suc, ◌+◌, ◌-◌, ◌*◌, ◌/◌, ◌%◌, ◌^◌, ◌<◌, ◌≤◌, Bool, false, List, ◌++◌, length, get_or, take, drop, eqb, sym, refl, ap, ◌∙◌, ⊎_elim, arith, length-append, length-drop, length-take, pow-suc}
use Rattle.std.proofs.lemmas.Bool.{cases_lt}
use Rattle.std.proofs.lemmas.List.{get_or-drop, get_or-take, get_or_append_left, get_or-append_right}
use Rattle.std.proofs.lemmas.List.FromFn.{length-map-range_with_len, get_or-map-range_with_len}
use Rattle.std.proofs.lemmas.Nat.{pow-add, mul-add-lt}
use Rattle.std.proofs.lemmas.Nat.Bits.{same_from_bits_below, bit_at_cat_low, bit_at_cat_high}
use Rattle.std.specs.Int.{bit_at, byte_at, byte_worth, bytes_low_first, sum_through}
use Rattle.bit_lists.proofs.lemmas.BitsLemmas.{same_bits}
use Rattle.bit_lists.proofs.lemmas.NumberLemmas.{number_at-lt, bit_at-number_at, length-with_number, item-with_number_below, item-with_number_inside, item-with_number_above}
use Rattle.bit_lists.proofs.lemmas.WordLemmas.{truth, truth-digit, bit_at-shr, bit_at-mod}
use Rattle.bit_lists.specs.Bits.{digit, item}
use Rattle.bit_words.specs.Bytes.{byte_bits_of}
use Rattle.bit_lists.specs.Number.{number_at, with_number}

-- ---- bits

pub length-byte_bits_of : (bytes : List ℕ) → length (byte_bits_of bytes) ≡ 8 * length bytes
unfolding byte_bits_of
length-byte_bits_of bytes = length-map-range_with_len (λ i. digit (get_or bytes (i / 8) 0) (i % 8)) 0 (8 * length bytes)

-- the bit at digit r of byte q
pub item-byte_bits_of : (bytes : List ℕ) (i q r : ℕ) → i ≡ 8 * q + r → r < 8 → q < length bytes
    → item (byte_bits_of bytes) i ≡ digit (get_or bytes q 0) r
unfolding byte_bits_of
item-byte_bits_of bytes i q r e low within =
    let byte : i / 8 ≡ q = omega arith in
    let rest : i % 8 ≡ r = omega arith in
    get_or-map-range_with_len (λ j. digit (get_or bytes (j / 8) 0) (j % 8)) 0 (8 * length bytes) i i false (omega arith) (omega arith)
    ∙ ap (λ k. digit (get_or bytes k 0) (i % 8)) byte
    ∙ ap (digit (get_or bytes q 0)) rest

-- ---- numbers of bytes

pow_of_bytes : (q : ℕ) → 256 ^ q ≡ 2 ^ (8 * q)
pow_of_bytes zero = refl
pow_of_bytes (suc q) =
    let e : 8 * suc q ≡ 8 * q + 8 = omega arith in
    let more : 2 ^ (8 * suc q) ≡ 2 ^ (8 * q) * 2 ^ 8 = ap (λ k. 2 ^ k) e ∙ pow-add 2 (8 * q) 8 in
    omega (arith, pow-suc 256 q, pow_of_bytes q, more)

-- byte q of a number, by its digits
byte_at-is : (q v : ℕ) → byte_at q v ≡ v / 2 ^ (8 * q) % 2 ^ 8
byte_at-is zero v = let e : v ≡ v / 1 = omega arith in ap (λ x. x % 256) e
byte_at-is (suc q) v = ap (λ d. v / d % 256) (pow_of_bytes (suc q))

bit_at-byte_at : (q v r : ℕ) → r < 8 → bit_at (byte_at q v) r ≡ bit_at v (8 * q + r)
bit_at-byte_at q v r low =
    ap (λ x. bit_at x r) (byte_at-is q v) ∙ bit_at-mod (v / 2 ^ (8 * q)) 8 r low ∙ bit_at-shr v (8 * q) r (8 * q + r) refl

get_or-bytes_low_first : (i k v q : ℕ) → q < k → get_or (bytes_low_first i k v) q 0 ≡ byte_at (i + q) v
get_or-bytes_low_first i zero v q l = absurd (omega arith)
get_or-bytes_low_first i (suc k) v zero l = let e : i ≡ i + 0 = omega arith in ap (λ j. byte_at j v) e
get_or-bytes_low_first i (suc k) v (suc q) l =
    let e : suc i + q ≡ i + suc q = omega arith in
    get_or-bytes_low_first (suc i) k v q (omega arith) ∙ ap (λ j. byte_at j v) e

length-bytes_low_first : (i k v : ℕ) → length (bytes_low_first i k v) ≡ k
length-bytes_low_first i zero v = refl
length-bytes_low_first i (suc k) v = ap suc (length-bytes_low_first (suc i) k v)

-- the number that bytes make has their digits, eight after eight
record IsNumberOf (f : ℕ → ℕ) (k v : ℕ) : Type 0 where
  fits : v < 2 ^ (8 * k)
  digits : (j q r : ℕ) → j ≡ 8 * q + r → r < 8 → q < k → bit_at v j ≡ bit_at (f q) r

-- one byte more, above the others
number_more : (f : ℕ → ℕ) (k s : ℕ) → f (suc k) < 2 ^ 8 → IsNumberOf f (suc k) s → IsNumberOf f (suc (suc k)) (s + f (suc k) * 256 ^ suc k)
number_more f k s small before = record {
  fits = omega (arith, whole, mul-add-lt (f (suc k)) (2 ^ (8 * suc k)) s (2 ^ 8) small before.fits, room);
  digits = λ j q r e low within. ap (λ x. bit_at x j) whole ∙ ⊎_elim
      (λ lower. bit_at_cat_low (f (suc k)) (8 * suc k) s j (omega arith) ∙ before.digits j q r e low lower)
      (λ top.
      let last : q ≡ suc k = omega arith in
      let rest : j - 8 * suc k ≡ r = omega arith in
      bit_at_cat_high (f (suc k)) (8 * suc k) s j before.fits (omega arith)
      ∙ ap (bit_at (f (suc k))) rest
      ∙ ap (λ a. bit_at (f a) r) (sym last))
      (cases_lt q (suc k));
}
  where
    whole : s + f (suc k) * 256 ^ suc k ≡ f (suc k) * 2 ^ (8 * suc k) + s
    whole =
        let e : f (suc k) * 256 ^ suc k ≡ f (suc k) * 2 ^ (8 * suc k) = ap (λ p. f (suc k) * p) (pow_of_bytes (suc k)) in
        omega (arith, e)

    room : 2 ^ (8 * suc (suc k)) ≡ 2 ^ (8 * suc k) * 2 ^ 8
    room = let e : 8 * suc (suc k) ≡ 8 * suc k + 8 = omega arith in ap (λ n. 2 ^ n) e ∙ pow-add 2 (8 * suc k) 8

sum_is_number : (f : ℕ → ℕ) → ((i : ℕ) → f i < 2 ^ 8) → (k : ℕ) → IsNumberOf f (suc k) (sum_through (λ i. byte_worth i (f i)) k)
sum_is_number f small zero = record {
  fits = small 0;
  digits = λ j q r e low within.
      let first : q ≡ 0 = omega arith in
      let same : j ≡ r = omega arith in
      ap (bit_at (f 0)) same ∙ ap (λ a. bit_at (f a) r) (sym first);
}
sum_is_number f small (suc k) = number_more f k (sum_through (λ i. byte_worth i (f i)) k) (small (suc k)) (sum_is_number f small k)

-- k + 1 bytes in a row, read as one number
pub bytes_as_number : (bytes : List ℕ) (at k : ℕ) → ((i : ℕ) → get_or bytes i 0 < 2 ^ 8) → at + suc k ≤ length bytes
    → sum_through (λ i. byte_worth i (get_or bytes (at + i) 0)) k ≡ number_at (byte_bits_of bytes) (8 * at) (8 * suc k)
bytes_as_number bytes at k small within =
    same_from_bits_below (8 * suc k) (sum_through (λ i. byte_worth i (f i)) k) (number_at (byte_bits_of bytes) (8 * at) (8 * suc k))
    is.fits
    (number_at-lt (byte_bits_of bytes) (8 * at) (8 * suc k) (omega (arith, length-byte_bits_of bytes)))
    (λ j l.
    let q = j / 8 in
    is.digits j q (j % 8) (omega arith) (omega arith) (omega arith)
    ∙ sym (bit_at-number_at (byte_bits_of bytes) (8 * at) (8 * suc k) j l
    ∙ ap truth (item-byte_bits_of bytes (8 * at + j) (at + q) (j % 8) (omega arith) (omega arith) (omega arith))
    ∙ truth-digit (get_or bytes (at + q) 0) (j % 8)))
  where
    f : ℕ → ℕ
    f i = get_or bytes (at + i) 0

    is : IsNumberOf (λ i. get_or bytes (at + i) 0) (suc k) (sum_through (λ i. byte_worth i (get_or bytes (at + i) 0)) k)
    is = sum_is_number (λ i. get_or bytes (at + i) 0) (λ i. small (at + i)) k

-- k bytes in a row, replaced by those of a number
module _ (bytes ys : List ℕ) (at n k v : ℕ) (same : n ≡ k) (is : ys ≡ bytes_low_first 0 k v) (within : at + k ≤ length bytes) where
  abbrev after : List ℕ
  after = ys ++ drop n (drop at bytes)

  abbrev new : List ℕ
  new = take at bytes ++ after

  front : length (take at bytes) ≡ at
  front = omega (arith, length-take at bytes)

  mid : length ys ≡ k
  mid = ap length is ∙ length-bytes_low_first 0 k v

  len : length new ≡ length bytes
  len =
      omega (
        arith,
        length-append (take at bytes) after,
        length-append ys (drop n (drop at bytes)),
        length-drop n (drop at bytes),
        length-drop at bytes,
        front,
        mid,
      )

  byte_below : (q : ℕ) → q < at → get_or new q 0 ≡ get_or bytes q 0
  byte_below q l = get_or_append_left (take at bytes) after 0 q (omega (arith, front)) ∙ get_or-take at bytes q 0 l

  byte_from : (q : ℕ) → at ≤ q → get_or new q 0 ≡ get_or after (q - at) 0
  byte_from q l = get_or-append_right (take at bytes) after at q 0 front l

  byte_among : (q : ℕ) → at ≤ q → q < at + k → get_or new q 0 ≡ byte_at (q - at) v
  byte_among q from among =
      byte_from q from
      ∙ get_or_append_left ys (drop n (drop at bytes)) 0 (q - at) (omega (arith, mid))
      ∙ ap (λ l. get_or l (q - at) 0) is
      ∙ get_or-bytes_low_first 0 k v (q - at) (omega arith)
      ∙ ap (λ a. byte_at a v) (let e : 0 + (q - at) ≡ q - at = omega arith in e)

  byte_above : (q : ℕ) → at + k ≤ q → get_or new q 0 ≡ get_or bytes q 0
  byte_above q past =
      byte_from q (omega arith)
      ∙ get_or-append_right ys (drop n (drop at bytes)) k (q - at) 0 mid (omega arith)
      ∙ get_or-drop n (drop at bytes) (q - at - k) 0
      ∙ get_or-drop at bytes (n + (q - at - k)) 0
      ∙ ap (λ a. get_or bytes a 0) (let e : at + (n + (q - at - k)) ≡ q = omega arith in e)

  abbrev b : List Bool
  b = byte_bits_of bytes

  room : 8 * at + 8 * k ≤ length b
  room = omega (arith, length-byte_bits_of bytes)

  -- item i, at digit r of byte q, by where it lies
  item_below : (i q r : ℕ) → i ≡ 8 * q + r → r < 8 → q < at → item (byte_bits_of new) i ≡ item (with_number b (8 * at) (8 * k) v) i
  item_below i q r position low before =
      item-byte_bits_of new i q r position low (omega (arith, len))
      ∙ ap (λ x. digit x r) (byte_below q before)
      ∙ sym (item-with_number_below b (8 * at) (8 * k) v i room (omega arith)
      ∙ item-byte_bits_of bytes i q r position low (omega arith))

  item_among : (i q r : ℕ) → i ≡ 8 * q + r → r < 8 → at ≤ q → q < at + k
      → item (byte_bits_of new) i ≡ item (with_number b (8 * at) (8 * k) v) i
  item_among i q r position low from among =
      let j = i - 8 * at in
      let there : 8 * at + j ≡ i = omega arith in
      let digit_position : 8 * (q - at) + r ≡ j = omega arith in
      item-byte_bits_of new i q r position low (omega (arith, len))
      ∙ ap (λ x. digit x r) (byte_among q from among)
      ∙ ap (λ d. eqb d 1) (bit_at-byte_at (q - at) v r low ∙ ap (bit_at v) digit_position)
      ∙ sym (ap (item (with_number b (8 * at) (8 * k) v)) (sym there)
      ∙ item-with_number_inside b (8 * at) (8 * k) v j room (omega arith))

  item_above : (i q r : ℕ) → i ≡ 8 * q + r → r < 8 → q < length bytes → at + k ≤ q
      → item (byte_bits_of new) i ≡ item (with_number b (8 * at) (8 * k) v) i
  item_above i q r position low inside past =
      item-byte_bits_of new i q r position low (omega (arith, len))
      ∙ ap (λ x. digit x r) (byte_above q past)
      ∙ sym (item-with_number_above b (8 * at) (8 * k) v i room (omega arith)
      ∙ item-byte_bits_of bytes i q r position low inside)

  pub bytes_replaced : byte_bits_of new ≡ with_number b (8 * at) (8 * k) v
  bytes_replaced =
      same_bits (byte_bits_of new) (with_number b (8 * at) (8 * k) v)
      (omega (arith, length-byte_bits_of new, length-byte_bits_of bytes, length-with_number b (8 * at) (8 * k) v room, len))
      (λ i l.
      let q = i / 8 in
      let r = i % 8 in
      let position : i ≡ 8 * q + r = omega arith in
      let low : r < 8 = omega arith in
      let inside : q < length bytes = omega (arith, length-byte_bits_of new, len) in
      ⊎_elim (λ before. item_below i q r position low before)
      (λ from. ⊎_elim (λ among. item_among i q r position low from among) (λ past. item_above i q r position low inside past)
      (cases_lt q (at + k)))
      (cases_lt q at))
