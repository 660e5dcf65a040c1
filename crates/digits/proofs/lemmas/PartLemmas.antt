-- The bits of digits, gathered one after another, and the words of a line that they are written to.
use Rattle.std.proofs.Common.{◌≡◌, ℕ, ◌+◌, ◌-◌, ◌*◌, ◌/◌, ◌%◌, ◌^◌, ◌<◌, ◌≤◌, List, length, get_or, set, take, map, bit_or, refl, sym, ap, ap₂, ◌∙◌, arith, length-take, ⊎_elim}
use Rattle.std.proofs.lemmas.Bool.{cases_lt}
use Rattle.std.proofs.lemmas.List.{get_or-set_same, get_or-take, ext_get_or, length-map, get_or-map, get_or_past}
use Rattle.std.proofs.lemmas.Nat.{pow_pos}
use Rattle.std.proofs.lemmas.Nat.Bits.{bit_at_or, bit_at_above, bit_at_lowest}
use Rattle.std.specs.Int.{bit_at}
use Rattle.bit_lists.proofs.lemmas.WordLemmas.{bit_at-shl, bit_at-shl_below, bit_at-shr}
use Rattle.digits.specs.Digits.{digits_of, digit_of, digit_from, low_word, high_word}
use Rattle.digits.proofs.lemmas.DigitLemmas.{length-digits_of, item-digits_of}

-- one more bit in a word
pub or_below : (low b at y : ℕ) → y < 64 → y < at → bit_at (bit_or low (b * 2 ^ at % 2 ^ 64)) y ≡ bit_at low y
or_below low b at y inside before =
    omega (arith, bit_at_or low (b * 2 ^ at % 2 ^ 64) y, bit_at-shl_below b at 64 y inside before)

pub or_at : (low b at : ℕ) → at < 64 → b < 2 → bit_at low at ≡ 0 → bit_at (bit_or low (b * 2 ^ at % 2 ^ 64)) at ≡ b
or_at low b at inside bit none =
    omega (arith, bit_at_or low (b * 2 ^ at % 2 ^ 64) at, none, bit_at-shl b at 64 at 0 inside (omega arith), bit_at_lowest b)

pub or_above : (low b at y : ℕ) → y < 64 → at < y → b < 2 → bit_at low y ≡ 0 → bit_at (bit_or low (b * 2 ^ at % 2 ^ 64)) y ≡ 0
or_above low b at y inside after bit none =
    omega (
      arith,
      bit_at_or low (b * 2 ^ at % 2 ^ 64) y,
      none,
      bit_at-shl b at 64 y (y - at) inside (omega arith),
      bit_at_above b 1 (y - at) (omega arith) (omega arith),
    )

-- the last 32 digits of a line have both their bits in one word
pub last_word : (words : List ℕ) (k p low high y : ℕ) → 8 * k + 8 ≤ length words → p < 4 → 3 ≤ p → 64 * p + y < 224
    → ((z : ℕ) → 32 ≤ z → z < 64 → bit_at low z ≡ 0)
    → bit_at (low_word (set words (8 * k + 1 + 2 * p) (bit_or low (high * 2 ^ 32 % 2 ^ 64))) k p) y
    + 2 * bit_at (high_word (set words (8 * k + 1 + 2 * p) (bit_or low (high * 2 ^ 32 % 2 ^ 64))) k p) y
    ≡ bit_at low y + 2 * bit_at high y
last_word words k p low high y inside few least position none =
    let v = bit_or low (high * 2 ^ 32 % 2 ^ 64) in
    let at = 8 * k + 1 + 2 * p in
    let new = set words at v in
    let third : p / 3 ≡ 1 = omega arith in
    let e : 8 * k + 2 + 2 * p - p / 3 ≡ at = omega arith in
    let here : get_or new at 0 ≡ v = get_or-set_same words at v 0 (omega arith) in
    let above : high_word new k p ≡ v / 2 ^ 32 =
    ap₂ (λ (i t : ℕ). get_or new i 0 / 2 ^ (32 * t)) e third ∙ ap (λ (w : ℕ). w / 2 ^ 32) here in
    let first : bit_at v y ≡ bit_at low y = or_below low high 32 y (omega arith) (omega arith) in
    let second : bit_at (v / 2 ^ 32) y ≡ bit_at high y =
    omega (
      arith,
      bit_at-shr v 32 y (32 + y) refl,
      bit_at_or low (high * 2 ^ 32 % 2 ^ 64) (32 + y),
      none (32 + y) (omega arith) (omega arith),
      bit_at-shl high 32 64 (32 + y) y (omega arith) refl,
    ) in
    ap₂ (λ (a b : ℕ). a + 2 * b) (ap (λ (w : ℕ). bit_at w y) here ∙ first) (ap (λ (w : ℕ). bit_at w y) above ∙ second)

-- the digits that count are those of the numbers, and the others are 0
pub digits_written : (lines numbers : List ℕ) (f : ℕ → ℕ) → length numbers ≤ 224 * (length lines / 8)
    → ((i : ℕ) → i < 224 * (length lines / 8) → digit_of lines i ≡ f (get_or numbers i 0))
    → take (length numbers) (digits_of lines) ≡ map f numbers
digits_written lines numbers f room each =
    let xs = take (length numbers) (digits_of lines) in
    let len : length xs ≡ length numbers = omega (arith, length-take (length numbers) (digits_of lines), length-digits_of lines) in
    ext_get_or 0 xs (map f numbers) (len ∙ sym (length-map numbers f))
    (λ i l.
    let inside : i < length numbers = omega (arith, len) in
    get_or-take (length numbers) (digits_of lines) i 0 inside ∙ item-digits_of lines i (omega (arith, inside)) ∙ each i (omega (arith, inside))
    ∙ sym (get_or-map f numbers i 0 0 inside))

pub rest_written : (lines numbers : List ℕ) (p i : ℕ) → length numbers ≤ i
    → ((k : ℕ) → k < 224 * (length lines / 8) → digit_of lines k ≡ digit_from p (get_or numbers k 0))
    → get_or (digits_of lines) i 0 ≡ 0
rest_written lines numbers p i past each =
    ⊎_elim
    (λ (inside : i < 224 * (length lines / 8)).
    let zero : digit_from p 0 ≡ 0 = omega (arith, pow_pos p) in
    item-digits_of lines i inside ∙ each i inside ∙ ap (digit_from p) (get_or_past numbers i 0 past) ∙ zero)
    (λ (after : 224 * (length lines / 8) ≤ i). get_or_past (digits_of lines) i 0 (omega (arith, length-digits_of lines, after)))
    (cases_lt i (224 * (length lines / 8)))
