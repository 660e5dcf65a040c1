-- Items read as a number, and items replaced by one: what was written is what is read.
use Rattle.std.proofs.Common.{◌≢◌, ⊎_elim, subst, set, length-set, get_or-set_same, get_or-set_other, refl, ◌≡◌, ℕ, zero, suc, ◌+◌, ◌-◌, ◌*◌, ◌/◌, ◌%◌, ◌^◌, ◌<◌, ◌≤◌, Bool, true, false, List, [], ◌∷◌, ◌++◌, length, get_or, take, drop, sym, ap, ◌∙◌, arith, length-append, length-drop, length-take, pow-suc, eqb}
use Rattle.std.proofs.lemmas.Bool.{cases_lt, cases_eq}
use Rattle.std.proofs.lemmas.List.{get_or-drop, get_or-take, get_or_append_left, get_or-append_right}
use Rattle.std.proofs.lemmas.Nat.Bits.{bit_at-suc, bit_at_lowest, bit_at-zero, same_from_bits_below}
use Rattle.std.specs.Int.{bit_at}
use Rattle.bit_lists.proofs.lemmas.BitsLemmas.{length-low_digits, item-low_digits, length-bits_of, item-bits_of_at, same_bits}
use Rattle.bit_lists.proofs.lemmas.WordLemmas.{truth, truth-digit}
use Rattle.bit_lists.specs.Bits.{digit, low_digits, bits_of, item}
use Rattle.bit_lists.specs.Number.{number_of_bits, number_at, with_number}

-- ---- numbers

pub number_of_bits-lt : (b : List Bool) → number_of_bits b < 2 ^ length b
unfolding number_of_bits
number_of_bits-lt [] = omega arith
number_of_bits-lt (true ∷ b) = omega (arith, number_of_bits-lt b, pow-suc 2 (length b))
number_of_bits-lt (false ∷ b) = omega (arith, number_of_bits-lt b, pow-suc 2 (length b))

-- digit j of the number is item j
pub bit_at-number_of_bits : (b : List Bool) (j : ℕ) → bit_at (number_of_bits b) j ≡ truth (item b j)
unfolding number_of_bits
bit_at-number_of_bits [] j = bit_at-zero j
bit_at-number_of_bits (true ∷ b) zero = omega (arith, bit_at_lowest (1 + 2 * number_of_bits b))
bit_at-number_of_bits (false ∷ b) zero = omega (arith, bit_at_lowest (0 + 2 * number_of_bits b))
bit_at-number_of_bits (true ∷ b) (suc j) =
    let half : (1 + 2 * number_of_bits b) / 2 ≡ number_of_bits b = omega arith in
    bit_at-suc (1 + 2 * number_of_bits b) j ∙ ap (λ x. bit_at x j) half ∙ bit_at-number_of_bits b j
bit_at-number_of_bits (false ∷ b) (suc j) =
    let half : (0 + 2 * number_of_bits b) / 2 ≡ number_of_bits b = omega arith in
    bit_at-suc (0 + 2 * number_of_bits b) j ∙ ap (λ x. bit_at x j) half ∙ bit_at-number_of_bits b j

pub number_at-lt : (b : List Bool) (s n : ℕ) → s + n ≤ length b → number_at b s n < 2 ^ n
unfolding number_at
number_at-lt b s n within =
    let e : length (take n (drop s b)) ≡ n = omega (arith, length-take n (drop s b), length-drop s b) in
    let f : number_of_bits (take n (drop s b)) < 2 ^ length (take n (drop s b)) = number_of_bits-lt (take n (drop s b)) in
    omega (arith, f, ap (λ k. 2 ^ k) e)

pub bit_at-number_at : (b : List Bool) (s n j : ℕ) → j < n → bit_at (number_at b s n) j ≡ truth (item b (s + j))
unfolding number_at
bit_at-number_at b s n j l =
    bit_at-number_of_bits (take n (drop s b)) j ∙ ap truth (get_or-take n (drop s b) j false l ∙ get_or-drop s b j false)

-- digit k of the number that stands at s: digit j of word q
pub bit_at-number_at-bits_of : (words : List ℕ) (s n k q j : ℕ) → k < n → s + k ≡ 64 * q + j → j < 64 → q < length words → bit_at (number_at (bits_of words) s n) k ≡ bit_at (get_or words q 0) j
bit_at-number_at-bits_of words s n k q j l e low within =
    bit_at-number_at (bits_of words) s n k l ∙ ap truth (item-bits_of_at words (s + k) q j e low within) ∙ truth-digit (get_or words q 0) j

-- a number of n digits, each of which stands at its position in the content, is the number that stands there
pub number_at_is : (words : List ℕ) (s n v : ℕ) → s + n ≤ 64 * length words → v < 2 ^ n
    → ((k q j : ℕ) → k < n → s + k ≡ 64 * q + j → j < 64 → bit_at v k ≡ bit_at (get_or words q 0) j)
    → v ≡ number_at (bits_of words) s n
number_at_is words s n v within fits same =
    same_from_bits_below n v (number_at (bits_of words) s n) fits
    (number_at-lt (bits_of words) s n (omega (arith, length-bits_of words)))
    (λ k l. let i = s + k in
    same k (i / 64) (i % 64) l (omega arith) (omega arith)
    ∙ sym (bit_at-number_at-bits_of words s n k (i / 64) (i % 64) l (omega arith) (omega arith) (omega arith)))

-- one item as a number
pub number_at-one : (b : List Bool) (i : ℕ) → i < length b → number_at b i 1 ≡ truth (item b i)
number_at-one b i inside =
    same_from_bits_below 1 (number_at b i 1) (truth (item b i)) (number_at-lt b i 1 (omega arith)) (small (item b i))
    (λ k l.
    let lowest : k ≡ 0 = omega arith in
    let there : i + k ≡ i = omega arith in
    bit_at-number_at b i 1 k l ∙ ap (λ j. truth (item b j)) there ∙ sym (ap (bit_at (truth (item b i))) lowest ∙ itself (item b i)))
  where
    small : (x : Bool) → truth x < 2 ^ 1
    small true = omega arith
    small false = omega arith

    itself : (x : Bool) → bit_at (truth x) 0 ≡ truth x
    itself true = bit_at_lowest 1
    itself false = bit_at_lowest 0

-- ---- writes

pub length-with_number : (b : List Bool) (s n v : ℕ) → s + n ≤ length b → length (with_number b s n v) ≡ length b
unfolding with_number
length-with_number b s n v within =
    omega (arith, length-append (take s b ++ low_digits n v) (drop (s + n) b), length-append (take s b) (low_digits n v), length-take s b, length-low_digits n v, length-drop (s + n) b)

front_len : (b : List Bool) (s n v : ℕ) → s + n ≤ length b → length (take s b ++ low_digits n v) ≡ s + n
front_len b s n v within = omega (arith, length-append (take s b) (low_digits n v), length-take s b, length-low_digits n v)

take_len : (b : List Bool) (s n : ℕ) → s + n ≤ length b → length (take s b) ≡ s
take_len b s n within = omega (arith, length-take s b)

pub item-with_number_below : (b : List Bool) (s n v i : ℕ) → s + n ≤ length b → i < s → item (with_number b s n v) i ≡ item b i
unfolding with_number
item-with_number_below b s n v i within l =
    get_or_append_left (take s b ++ low_digits n v) (drop (s + n) b) false i (omega (arith, front_len b s n v within))
    ∙ get_or_append_left (take s b) (low_digits n v) false i (omega (arith, take_len b s n within))
    ∙ get_or-take s b i false l

pub item-with_number_inside : (b : List Bool) (s n v k : ℕ) → s + n ≤ length b → k < n → item (with_number b s n v) (s + k) ≡ digit v k
unfolding with_number
item-with_number_inside b s n v k within l =
    get_or_append_left (take s b ++ low_digits n v) (drop (s + n) b) false (s + k) (omega (arith, front_len b s n v within))
    ∙ get_or-append_right (take s b) (low_digits n v) s (s + k) false (take_len b s n within) (omega arith)
    ∙ ap (item (low_digits n v)) (let e : s + k - s ≡ k = omega arith in e)
    ∙ item-low_digits n v k l

pub item-with_number_above : (b : List Bool) (s n v i : ℕ) → s + n ≤ length b → s + n ≤ i → item (with_number b s n v) i ≡ item b i
unfolding with_number
item-with_number_above b s n v i within l =
    get_or-append_right (take s b ++ low_digits n v) (drop (s + n) b) (s + n) i false (front_len b s n v within) l
    ∙ get_or-drop (s + n) b (i - (s + n)) false
    ∙ ap (item b) (let e : s + n + (i - (s + n)) ≡ i = omega arith in e)

-- what was put is what is read
pub number_at-with_number : (b : List Bool) (s n v : ℕ) → s + n ≤ length b → v < 2 ^ n → number_at (with_number b s n v) s n ≡ v
number_at-with_number b s n v within fits =
    same_from_bits_below n (number_at (with_number b s n v) s n) v (number_at-lt (with_number b s n v) s n (omega (arith, length-with_number b s n v within))) fits
    (λ k l. bit_at-number_at (with_number b s n v) s n k l ∙ ap truth (item-with_number_inside b s n v k within l) ∙ truth-digit v k)

-- one item put in is that item changed
pub with_number-one : (b : List Bool) (i : ℕ) (v : Bool) → i < length b → with_number b i 1 (truth v) ≡ set b i v
with_number-one b i v inside =
    same_bits (with_number b i 1 (truth v)) (set b i v)
    (length-with_number b i 1 (truth v) room ∙ sym (length-set b i v))
    (λ j l.
    let within : j < length b = omega (arith, length-with_number b i 1 (truth v) room) in
    ⊎_elim
    (λ same.
    let P : ℕ → Type 0 = λ k. item (with_number b i 1 (truth v)) k ≡ item (set b i v) k in
    subst P (sym same)
    (ap (item (with_number b i 1 (truth v))) (let e : i ≡ i + 0 = omega arith in e)
    ∙ item-with_number_inside b i 1 (truth v) 0 room (omega arith)
    ∙ lowest v
    ∙ sym (get_or-set_same b i v false inside)))
    (λ apart. elsewhere j within apart ∙ sym (get_or-set_other b i j v false apart))
    (cases_eq j i))
  where
    room : i + 1 ≤ length b
    room = omega arith

    lowest : (v : Bool) → digit (truth v) 0 ≡ v
    lowest true = refl
    lowest false = refl

    elsewhere : (j : ℕ) → j < length b → j ≢ i → item (with_number b i 1 (truth v)) j ≡ item b j
    elsewhere j l apart =
        ⊎_elim
        (λ before. item-with_number_below b i 1 (truth v) j room before)
        (λ after. item-with_number_above b i 1 (truth v) j room (omega arith))
        (cases_lt j i)

-- what was read, put where it was read, changes nothing
pub with_number-number_at : (b : List Bool) (s n : ℕ) → s + n ≤ length b → with_number b s n (number_at b s n) ≡ b
with_number-number_at b s n within =
    same_bits (with_number b s n v) b (length-with_number b s n v within)
    (λ i l.
    ⊎_elim
    (λ before. item-with_number_below b s n v i within before)
    (λ from. ⊎_elim
    (λ inside.
    let at : s + (i - s) ≡ i = omega arith in
    let P : ℕ → Type 0 = λ k. item (with_number b s n v) k ≡ item b k in
    subst P at
    (item-with_number_inside b s n v (i - s) within (omega arith)
    ∙ ap (λ d. eqb d 1) (bit_at-number_at b s n (i - s) (omega arith))
    ∙ itself (item b (s + (i - s)))))
    (λ past. item-with_number_above b s n v i within past)
    (cases_lt i (s + n)))
    (cases_lt i s))
  where
    v : ℕ
    v = number_at b s n

    itself : (x : Bool) → eqb (truth x) 1 ≡ x
    itself true = refl
    itself false = refl
