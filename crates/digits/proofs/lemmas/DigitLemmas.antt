-- Digits of lines, and their counts over one part of a line more.
use Rattle.std.proofs.Common.{◌≡◌, Bool, count_by, [], ◌∷◌, map, ℕ, zero, suc, ◌+◌, ◌-◌, ◌*◌, ◌/◌, ◌%◌, ◌^◌, ◌<◌, ◌≤◌, ◌==◌, List, length, get_or, set, take, min, sym, refl, ap, ap₂, ◌∙◌, arith, count_ones, ⊎_elim, length-take}
use Rattle.std.proofs.lemmas.List.{take-map, ext_get_or, length-set, get_or-set_other}
use Rattle.std.proofs.lemmas.Bool.{cases_lt}
use Rattle.std.proofs.lemmas.List.Sums.{sum_by_more, sum_by-cons, count_by-le-length}
use Rattle.std.proofs.lemmas.List.FromFn.{length-map-range_with_len, get_or-map-range_with_len}
use Rattle.bit_lists.specs.Count.{ones_before}
use Rattle.std.proofs.lemmas.Nat.{ones_le_self}
use Rattle.std.specs.Int.{bit_at}
use Rattle.bit_lists.proofs.lemmas.WordLemmas.{truth}
use Rattle.bit_lists.proofs.lemmas.CountLemmas.{count_ones_more}
use Rattle.digits.specs.Digits.{digit_of, digit_in, digits_of, digits_before, low_word, high_word}

pub length-digits_of : (words : List ℕ) → length (digits_of words) ≡ 224 * (length words / 8)
unfolding digits_of
length-digits_of words = length-map-range_with_len (digit_of words) 0 (224 * (length words / 8))

pub item-digits_of : (words : List ℕ) (i : ℕ) → i < 224 * (length words / 8) → get_or (digits_of words) i 0 ≡ digit_of words i
unfolding digits_of
item-digits_of words i l = get_or-map-range_with_len (digit_of words) 0 (224 * (length words / 8)) i i 0 l (omega arith)

pub digits_before_none : (d : ℕ) (xs : List ℕ) → digits_before d xs 0 ≡ 0
unfolding digits_before
digits_before_none d xs = refl

pub digits_before_more : (d : ℕ) (xs : List ℕ) (i : ℕ) → i < length xs
    → digits_before d xs (i + 1) ≡ digits_before d xs i + truth (get_or xs i 0 == d)
unfolding digits_before
digits_before_more d xs i l = sum_by_more (λ x. truth (x == d)) xs i 0 l

-- the digit at position y of part j of line k
pub digit_at_part : (words : List ℕ) (k j y : ℕ) → 8 * k + 8 ≤ length words → y < 64 → 64 * j + y < 224
    → get_or (digits_of words) (224 * k + 64 * j + y) 0 ≡ bit_at (low_word words k j) y + 2 * bit_at (high_word words k j) y
digit_at_part words k j y within low inside =
    let i = 224 * k + 64 * j + y in
    let line : i / 224 ≡ k = omega arith in
    let rest : i % 224 ≡ 64 * j + y = omega arith in
    let part : (64 * j + y) / 64 ≡ j = omega arith in
    let position : (64 * j + y) % 64 ≡ y = omega arith in
    item-digits_of words i (omega arith)
    ∙ ap₂ (λ l r. digit_in words l r) line rest
    ∙ ap₂ (λ p q. bit_at (low_word words k p) q + 2 * bit_at (high_word words k p) q) part position

-- the count over y digits more of part j, from a word that has a one for each digit that counts
pub digits_of_part : (words : List ℕ) (k j d m : ℕ) → 8 * k + 8 ≤ length words
    → ((i : ℕ) → i < 64 → 64 * j + i < 224 → bit_at m i ≡ truth (bit_at (low_word words k j) i + 2 * bit_at (high_word words k j) i == d))
    → (y : ℕ) → y ≤ 64 → 64 * j + y ≤ 224
    → digits_before d (digits_of words) (224 * k + 64 * j + y) ≡ digits_before d (digits_of words) (224 * k + 64 * j) + count_ones (m % 2 ^ y)
digits_of_part words k j d m within is zero l inside =
    let e : 224 * k + 64 * j + 0 ≡ 224 * k + 64 * j = omega arith in
    let none : m % 1 ≡ 0 = omega arith in
    omega (arith, ap (digits_before d (digits_of words)) e, ap count_ones none, ones_le_self 0)
digits_of_part words k j d m within is (suc y) l inside =
    let b = digits_of words in
    let at = 224 * k + 64 * j + y in
    let next : 224 * k + 64 * j + suc y ≡ at + 1 = omega arith in
    let step : suc y ≡ y + 1 = omega arith in
    let more = digits_before_more d b at (omega (arith, length-digits_of words)) in
    let here : truth (get_or b at 0 == d) ≡ bit_at m y =
    ap (λ x. truth (x == d)) (digit_at_part words k j y within (omega arith) (omega arith)) ∙ sym (is y (omega arith) (omega arith)) in
    omega (
      arith,
      ap (digits_before d b) next,
      more,
      here,
      digits_of_part words k j d m within is y (omega arith) (omega arith),
      count_ones_more m y,
      ap (λ e. count_ones (m % 2 ^ e)) step,
    )

-- no more digits count than there are
pub digits_before-self : (d : ℕ) (xs : List ℕ) (i : ℕ) → digits_before d xs i ≤ i
unfolding digits_before
digits_before-self d xs i = omega (arith, count_by-le-length (λ x. x == d) (take i xs), length-take i xs)

-- the words of the two parts of half h of line k, as the code has them
pub low_first : (words : List ℕ) (k h : ℕ) → low_word words k (2 * h) ≡ get_or words (8 * k + 4 * h + 1) 0
low_first words k h = let e : 8 * k + 1 + 2 * (2 * h) ≡ 8 * k + 4 * h + 1 = omega arith in ap (λ i. get_or words i 0) e

pub low_second : (words : List ℕ) (k h : ℕ) → low_word words k (2 * h + 1) ≡ get_or words (8 * k + 4 * h + 3) 0
low_second words k h = let e : 8 * k + 1 + 2 * (2 * h + 1) ≡ 8 * k + 4 * h + 3 = omega arith in ap (λ i. get_or words i 0) e

pub high_first : (words : List ℕ) (k h : ℕ) → h < 2 → high_word words k (2 * h) ≡ get_or words (8 * k + 4 * h + 2) 0
high_first words k h l =
    let third : 2 * h / 3 ≡ 0 = omega arith in
    let e : 8 * k + 2 + 2 * (2 * h) - 2 * h / 3 ≡ 8 * k + 4 * h + 2 = omega arith in
    let whole : get_or words (8 * k + 4 * h + 2) 0 / 1 ≡ get_or words (8 * k + 4 * h + 2) 0 = omega arith in
    ap₂ (λ i t. get_or words i 0 / 2 ^ (32 * t)) e third ∙ whole

pub high_second : (words : List ℕ) (k h : ℕ) → h < 2 → high_word words k (2 * h + 1) ≡ get_or words (8 * k + 4 + 3 * h) 0 / 2 ^ (32 * h)
high_second words k h l =
    let third : (2 * h + 1) / 3 ≡ h = omega arith in
    let e : 8 * k + 2 + 2 * (2 * h + 1) - (2 * h + 1) / 3 ≡ 8 * k + 4 + 3 * h = omega arith in
    ap₂ (λ i t. get_or words i 0 / 2 ^ (32 * t)) e third

-- the word m has a one for each digit of 64 that is d, where low and high are their bits
abbrev pub IsMatched : ℕ → ℕ → ℕ → ℕ → Type 0
IsMatched low high d m = (i : ℕ) → i < 64 → bit_at m i ≡ truth (bit_at low i + 2 * bit_at high i == d)

-- the count over x digits of half h
pub digits_of_half : (words : List ℕ) (k h d m n : ℕ) → 8 * k + 8 ≤ length words → h < 2
    → IsMatched (get_or words (8 * k + 4 * h + 1) 0) (get_or words (8 * k + 4 * h + 2) 0) d m
    → IsMatched (get_or words (8 * k + 4 * h + 3) 0) (get_or words (8 * k + 4 + 3 * h) 0 / 2 ^ (32 * h)) d n
    → (x : ℕ) → x ≤ 128 → 128 * h + x ≤ 224
    → digits_before d (digits_of words) (224 * k + 128 * h + x)
    ≡ digits_before d (digits_of words) (224 * k + 128 * h) + count_ones (m % 2 ^ min x 64) + count_ones (n % 2 ^ (x - 64))
digits_of_half words k h d m n within halves of_m of_n x few inside =
    let b = digits_of words in
    let m_is : IsMatched (low_word words k (2 * h)) (high_word words k (2 * h)) d m =
    λ i l. of_m i l ∙ sym (ap₂ (λ p q. truth (bit_at p i + 2 * bit_at q i == d)) (low_first words k h) (high_first words k h halves)) in
    let n_is : IsMatched (low_word words k (2 * h + 1)) (high_word words k (2 * h + 1)) d n =
    λ i l. of_n i l ∙ sym (ap₂ (λ p q. truth (bit_at p i + 2 * bit_at q i == d)) (low_second words k h) (high_second words k h halves)) in
    let begin : 224 * k + 64 * (2 * h) ≡ 224 * k + 128 * h = omega arith in
    let first = digits_of_part words k (2 * h) d m within (λ i l _. m_is i l) (min x 64) (omega arith) (omega arith) in
    ⊎_elim
    (λ low.
    let position : 224 * k + 64 * (2 * h) + min x 64 ≡ 224 * k + 128 * h + x = omega arith in
    let none : x - 64 ≡ 0 = omega arith in
    let empty : n % 1 ≡ 0 = omega arith in
    let no_ones : count_ones (n % 2 ^ (x - 64)) ≡ 0 = omega (arith, ap (λ e. count_ones (n % 2 ^ e)) none, ap count_ones empty, ones_le_self 0) in
    omega (arith, first, ap (digits_before d b) position, ap (digits_before d b) begin, no_ones))
    (λ high.
    let position : 224 * k + 64 * (2 * h) + min x 64 ≡ 224 * k + 64 * (2 * h + 1) = omega arith in
    let end : 224 * k + 64 * (2 * h + 1) + (x - 64) ≡ 224 * k + 128 * h + x = omega arith in
    let second = digits_of_part words k (2 * h + 1) d n within (λ i l _. n_is i l) (x - 64) (omega arith) (omega arith) in
    omega (arith, first, second, ap (digits_before d b) position, ap (digits_before d b) begin, ap (digits_before d b) end))
    (cases_lt x 64)

-- words that are the same have the same digits matched
pub matched_at : (a b p q d m : ℕ) → IsMatched a b d m → p ≡ a → q ≡ b → IsMatched p q d m
matched_at a b p q d m is of_p of_q = λ i l. is i l ∙ sym (ap₂ (λ x y. truth (bit_at x i + 2 * bit_at y i == d)) of_p of_q)

-- the counts over one line
pub digits_of_line : (words : List ℕ) (k d one two three four : ℕ) → 8 * k + 8 ≤ length words
    → IsMatched (get_or words (8 * k + 1) 0) (get_or words (8 * k + 2) 0) d one
    → IsMatched (get_or words (8 * k + 3) 0) (get_or words (8 * k + 4) 0) d two
    → IsMatched (get_or words (8 * k + 5) 0) (get_or words (8 * k + 6) 0) d three
    → IsMatched (get_or words (8 * k + 7) 0) (get_or words (8 * k + 7) 0 / 2 ^ 32) d four
    → (digits_before d (digits_of words) (224 * k + 128) ≡ digits_before d (digits_of words) (224 * k) + count_ones (one % 2 ^ 64) + count_ones (two % 2 ^ 64))
    × (digits_before d (digits_of words) (224 * (k + 1)) ≡ digits_before d (digits_of words) (224 * k + 128) + count_ones (three % 2 ^ 64) + count_ones (four % 2 ^ 32))
digits_of_line words k d one two three four within is_one is_two is_three is_four =
    let D = digits_before d (digits_of words) in
    let i1 : 8 * k + 1 + 2 * 0 ≡ 8 * k + 1 = omega arith in
    let i2 : 8 * k + 2 + 2 * 0 - 0 / 3 ≡ 8 * k + 2 = omega arith in
    let i3 : 8 * k + 1 + 2 * 1 ≡ 8 * k + 3 = omega arith in
    let i4 : 8 * k + 2 + 2 * 1 - 1 / 3 ≡ 8 * k + 4 = omega arith in
    let i5 : 8 * k + 1 + 2 * 2 ≡ 8 * k + 5 = omega arith in
    let i6 : 8 * k + 2 + 2 * 2 - 2 / 3 ≡ 8 * k + 6 = omega arith in
    let i7 : 8 * k + 1 + 2 * 3 ≡ 8 * k + 7 = omega arith in
    let i8 : 8 * k + 2 + 2 * 3 - 3 / 3 ≡ 8 * k + 7 = omega arith in
    let whole : (x : ℕ) → x / 1 ≡ x = λ x. omega arith in
    let W : ℕ → ℕ = λ i. get_or words i 0 in
    let first =
    digits_of_part words k 0 d one within
    (λ i l _. matched_at _ _ _ _ d one is_one (ap W i1) (whole (W (8 * k + 2 + 2 * 0 - 0 / 3)) ∙ ap W i2) i l) 64 (omega arith) (omega arith) in
    let second =
    digits_of_part words k 1 d two within
    (λ i l _. matched_at _ _ _ _ d two is_two (ap W i3) (whole (W (8 * k + 2 + 2 * 1 - 1 / 3)) ∙ ap W i4) i l) 64 (omega arith) (omega arith) in
    let third =
    digits_of_part words k 2 d three within
    (λ i l _. matched_at _ _ _ _ d three is_three (ap W i5) (whole (W (8 * k + 2 + 2 * 2 - 2 / 3)) ∙ ap W i6) i l) 64 (omega arith) (omega arith) in
    let fourth =
    digits_of_part words k 3 d four within (λ i l _. matched_at _ _ _ _ d four is_four (ap W i7) (ap (λ i. W i / 2 ^ 32) i8) i l) 32 (omega arith) (omega arith) in
    let p0 : 224 * k + 64 * 0 ≡ 224 * k = omega arith in
    let p1 : 224 * k + 64 * 0 + 64 ≡ 224 * k + 64 * 1 = omega arith in
    let p2 : 224 * k + 64 * 1 + 64 ≡ 224 * k + 128 = omega arith in
    let p3 : 224 * k + 64 * 2 ≡ 224 * k + 128 = omega arith in
    let p4 : 224 * k + 64 * 2 + 64 ≡ 224 * k + 64 * 3 = omega arith in
    let p5 : 224 * k + 64 * 3 + 32 ≡ 224 * (k + 1) = omega arith in (
      omega (arith, first, second, ap D p0, ap D p1, ap D p2),
      omega (arith, third, fourth, ap D p3, ap D p4, ap D p5),
    )

-- the first word of a line is no part of its digits
pub digits_kept : (words : List ℕ) (k v : ℕ) → digits_of (set words (8 * k) v) ≡ digits_of words
digits_kept words k v =
    let new = set words (8 * k) v in
    let len : length new ≡ length words = length-set words (8 * k) v in
    ext_get_or 0 (digits_of new) (digits_of words)
    (length-digits_of new ∙ ap (λ n. 224 * (n / 8)) len ∙ sym (length-digits_of words))
    (λ i l.
    let inside : i < 224 * (length words / 8) = omega (arith, length-digits_of new, len) in
    let q = i / 224 in
    let j = i % 224 / 64 in
    let y = i % 224 % 64 in
    let low : low_word new q j ≡ low_word words q j = get_or-set_other words (8 * k) (8 * q + 1 + 2 * j) v 0 (λ e. omega arith) in
    let high : high_word new q j ≡ high_word words q j =
    ap (λ w. w / 2 ^ (32 * (j / 3))) (get_or-set_other words (8 * k) (8 * q + 2 + 2 * j - j / 3) v 0 (λ e. omega arith)) in
    item-digits_of new i (omega (arith, inside, len))
    ∙ ap₂ (λ a b. bit_at a y + 2 * bit_at b y) low high
    ∙ sym (item-digits_of words i inside))

-- what holds for each of the four digits
pub by_digit : (P : ℕ → Type 0) → P 0 → P 1 → P 2 → P 3 → (d : ℕ) → d < 4 → P d
by_digit P p q r s zero l = p
by_digit P p q r s (suc zero) l = q
by_digit P p q r s (suc (suc zero)) l = r
by_digit P p q r s (suc (suc (suc zero))) l = s
by_digit P p q r s (suc (suc (suc (suc d)))) l = absurd (omega arith)

-- ---- digits and bits

counted_map : (d : ℕ) (ys : List ℕ) → count_by (λ (x : Bool). x) (map (λ y. y == d) ys) ≡ count_by (λ y. y == d) ys
counted_map d [] = refl
counted_map d (y ∷ ys) =
    sum_by-cons truth (y == d) (map (λ z. z == d) ys)
    ∙ ap (λ n. truth (y == d) + n) (counted_map d ys)
    ∙ sym (sum_by-cons (λ z. truth (z == d)) y ys)

-- a digit counts as the ones of the bits that say where it is
pub digits_are_ones : (d : ℕ) (digits : List ℕ) (i : ℕ) → digits_before d digits i ≡ ones_before (map (λ x. x == d) digits) i
unfolding digits_before ones_before
digits_are_ones d digits i = sym (ap (count_by (λ (x : Bool). x)) (take-map (λ x. x == d) i digits) ∙ counted_map d (take i digits))
