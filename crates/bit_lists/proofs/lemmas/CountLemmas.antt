-- Counts over one item more, over a word and over all words.
use Rattle.std.proofs.Common.{◌≡◌, ℕ, zero, suc, ◌+◌, ◌-◌, ◌*◌, ◌%◌, ◌^◌, ◌<◌, ◌≤◌, Bool, true, false, not, List, [], ◌∷◌, length, get_or, take, sym, refl, ap, ◌∙◌, ⊎_elim, arith, count_ones, sum_by, w64, ap₂, take_all, drop, count_by, mod-eq_of_lt, add_comm}
use Rattle.std.proofs.lemmas.Bool.{cases_eq, cases_lt}
use Rattle.std.proofs.lemmas.List.Sums.{sum_by_more, sum_by-cons, sum_by-take-drop}
use Rattle.std.proofs.lemmas.List.{drop-take, take-take, get_or-drop, get_or-take, get_or_past, length-take}
use Rattle.std.proofs.lemmas.Nat.{mod-pow-add, ones_cat, pow_pos, ones_le_self, zero_from_ones}
use Rattle.std.proofs.lemmas.Nat.Bits.{bit_at-lt, bit_at_not}
use Rattle.std.specs.Int.{bit_at, bit_not, count_zeros}
use Rattle.bit_lists.proofs.lemmas.BitsLemmas.{length-bits_of, item-bits_of_at}
use Rattle.bit_lists.proofs.lemmas.WordLemmas.{truth, truth-digit}
use Rattle.bit_lists.specs.Bits.{bits_of, item}
use Rattle.bit_lists.specs.Count.{ones_before, ones_of, zeros_before, zeros_of, count_before, is_same}

-- ---- one item more

pub ones_before_more : (b : List Bool) (i : ℕ) → i < length b → ones_before b (i + 1) ≡ ones_before b i + truth (item b i)
unfolding ones_before
ones_before_more b i l = sum_by_more truth b i false l

pub zeros_before_more : (b : List Bool) (i : ℕ) → i < length b → zeros_before b (i + 1) ≡ zeros_before b i + truth (not (item b i))
unfolding zeros_before
zeros_before_more b i l = sum_by_more (λ x. truth (not x)) b i false l

pub count_before_more : (v : Bool) (b : List Bool) (i : ℕ) → i < length b
    → count_before b v (i + 1) ≡ count_before b v i + truth (is_same v (item b i))
count_before_more true b i l = ones_before_more b i l
count_before_more false b i l = zeros_before_more b i l

pub ones_before_none : (b : List Bool) → ones_before b 0 ≡ 0
unfolding ones_before
ones_before_none b = refl

pub zeros_before_none : (b : List Bool) → zeros_before b 0 ≡ 0
unfolding zeros_before
zeros_before_none b = refl

-- each of the first i items is true or false
pub ones_before-add-zeros_before : (b : List Bool) (i : ℕ) → i ≤ length b → ones_before b i + zeros_before b i ≡ i
ones_before-add-zeros_before b zero l = omega (arith, ones_before_none b, zeros_before_none b)
ones_before-add-zeros_before b (suc i) l =
    let step : suc i ≡ i + 1 = omega arith in
    omega (arith, ap (ones_before b) step, ap (zeros_before b) step, ones_before_more b i (omega arith), zeros_before_more b i (omega arith), one_of (item b i), ones_before-add-zeros_before b i (omega arith))
  where
    one_of : (x : Bool) → truth x + truth (not x) ≡ 1
    one_of true = refl
    one_of false = refl

-- ---- the ones of a word

-- a digit has itself as its number of ones
count_ones_digit : (d : ℕ) → d < 2 → count_ones d ≡ d
count_ones_digit zero l = omega (arith, ones_le_self 0)
count_ones_digit (suc zero) l =
    ⊎_elim (λ e. absurd (omega (arith, zero_from_ones 1 e))) (λ some. omega (arith, ones_le_self 1)) (cases_eq (count_ones 1) 0)
count_ones_digit (suc (suc d)) l = absurd (omega arith)

-- digit k more of v
pub count_ones_more : (v k : ℕ) → count_ones (v % 2 ^ (k + 1)) ≡ count_ones (v % 2 ^ k) + bit_at v k
count_ones_more v k =
    let turn : k + 1 ≡ 1 + k = omega arith in
    ap (λ e. count_ones (v % 2 ^ e)) turn
    ∙ ap count_ones (mod-pow-add v 1 k)
    ∙ ones_cat k (bit_at v k) (v % 2 ^ k) (omega (arith, pow_pos k))
    ∙ ap (λ d. d + count_ones (v % 2 ^ k)) (count_ones_digit (bit_at v k) (bit_at-lt v k))
    ∙ add_comm (bit_at v k) (count_ones (v % 2 ^ k))

-- the ones before digit j of word q, from those before the word
pub ones_before-bits_of_in_word : (words : List ℕ) (q : ℕ) → q < length words → (j : ℕ) → j ≤ 64
    → ones_before (bits_of words) (64 * q + j) ≡ ones_before (bits_of words) (64 * q) + count_ones (get_or words q 0 % 2 ^ j)
ones_before-bits_of_in_word words q within zero l =
    let e : 64 * q + 0 ≡ 64 * q = omega arith in
    let none : get_or words q 0 % 1 ≡ 0 = omega arith in
    ap (ones_before (bits_of words)) e ∙ omega (arith, ap count_ones none, count_ones_digit 0)
ones_before-bits_of_in_word words q within (suc j) l =
    let b = bits_of words in
    let w = get_or words q 0 in
    let next : 64 * q + suc j ≡ 64 * q + j + 1 = omega arith in
    let more : ones_before b (64 * q + j + 1) ≡ ones_before b (64 * q + j) + truth (item b (64 * q + j)) = ones_before_more b (64 * q + j) (omega (arith, length-bits_of words)) in
    let here : truth (item b (64 * q + j)) ≡ bit_at w j = ap truth (item-bits_of_at words (64 * q + j) q j refl (omega arith) within) ∙ truth-digit w j in
    let before = ones_before-bits_of_in_word words q within j (omega arith) in
    let step : suc j ≡ j + 1 = omega arith in
    ap (ones_before b) next ∙ more
    ∙ omega (arith, here, before, count_ones_more w j, ap (λ e. count_ones (w % 2 ^ e)) step)

module _ (words : List ℕ) (fit : (k : ℕ) → get_or words k 0 < 2 ^ 64) where
  pub ones_before-bits_of_front : (q : ℕ) → q ≤ length words → ones_before (bits_of words) (64 * q) ≡ sum_by count_ones (take q words)
  ones_before-bits_of_front zero l = ones_before_none (bits_of words)
  ones_before-bits_of_front (suc q) l =
      let next : 64 * suc q ≡ 64 * q + 64 = omega arith in
      let step : suc q ≡ q + 1 = omega arith in
      let whole : get_or words q 0 % 2 ^ 64 ≡ get_or words q 0 = mod-eq_of_lt (fit q) in
      ap (ones_before (bits_of words)) next
      ∙ ones_before-bits_of_in_word words q (omega arith) 64 (omega arith)
      ∙ ap₂ (λ a v. a + count_ones v) (ones_before-bits_of_front q (omega arith)) whole
      ∙ sym (ap (λ k. sum_by count_ones (take k words)) step ∙ sum_by_more count_ones words q 0 (omega arith))

  pub ones_of-bits_of : ones_of (bits_of words) ≡ sum_by count_ones words
  ones_of-bits_of =
      ap (ones_before (bits_of words)) (length-bits_of words)
      ∙ ones_before-bits_of_front (length words) (omega arith)
      ∙ ap (sum_by count_ones) (take_all (length words) words (omega arith))

-- the ones of a word and of its negation, up to a position
pub digits_of_both : (v k : ℕ) → v < 2 ^ 64 → k ≤ 64 → count_ones (bit_not w64 v % 2 ^ k) + count_ones (v % 2 ^ k) ≡ k
digits_of_both v zero fits l =
    let left : bit_not w64 v % 1 ≡ 0 = omega arith in
    let right : v % 1 ≡ 0 = omega arith in
    omega (arith, ap count_ones left, ap count_ones right, count_ones_digit 0)
digits_of_both v (suc k) fits l =
    let step : suc k ≡ k + 1 = omega arith in
    omega (
      arith,
      ap (λ e. count_ones (bit_not w64 v % 2 ^ e)) step,
      ap (λ e. count_ones (v % 2 ^ e)) step,
      count_ones_more v k,
      count_ones_more (bit_not w64 v) k,
      bit_at_not w64 v k fits (omega arith),
      bit_at-lt v k,
      digits_of_both v k fits (omega arith),
    )

count_zeros-add-count_ones : (v : ℕ) → v < 2 ^ 64 → count_zeros w64 v + count_ones v ≡ 64
count_zeros-add-count_ones v fits =
    let all : v % 2 ^ 64 ≡ v = mod-eq_of_lt fits in
    let inverse : bit_not w64 v % 2 ^ 64 ≡ bit_not w64 v = mod-eq_of_lt (omega arith) in
    omega (arith, digits_of_both v 64 fits (omega arith), ap count_ones all, ap count_ones inverse)

sum_of_both : (words : List ℕ) → ((k : ℕ) → get_or words k 0 < 2 ^ 64) → sum_by (count_zeros w64) words + sum_by count_ones words ≡ 64 * length words
sum_of_both [] fit = refl
sum_of_both (w ∷ words) fit =
    omega (arith, sum_by-cons (count_zeros w64) w words, sum_by-cons count_ones w words, count_zeros-add-count_ones w (fit 0), sum_of_both words (λ k. fit (suc k)))

pub zeros_of-bits_of : (words : List ℕ) → ((k : ℕ) → get_or words k 0 < 2 ^ 64) → zeros_of (bits_of words) ≡ sum_by (count_zeros w64) words
zeros_of-bits_of words fit =
    let b = bits_of words in
    omega (
      arith,
      ones_before-add-zeros_before b (length b) (omega arith),
      length-bits_of words,
      ones_of-bits_of words fit,
      sum_of_both words fit,
    )

-- ---- longer stretches

-- past the end there are no more ones
pub ones_before_past : (b : List Bool) (i : ℕ) → length b ≤ i → ones_before b i ≡ ones_before b (length b)
unfolding ones_before
ones_before_past b i l = ap (count_by (λ x. x)) (take_all i b l ∙ sym (take_all (length b) b (omega arith)))

pub count_before_grows : (v : Bool) (b : List Bool) (i d : ℕ) → i + d ≤ length b → count_before b v i ≤ count_before b v (i + d)
count_before_grows v b i zero l = let e : i + 0 ≡ i = omega arith in omega (arith, ap (count_before b v) e)
count_before_grows v b i (suc d) l =
    let e : i + suc d ≡ i + d + 1 = omega arith in
    omega (arith, count_before_grows v b i d (omega arith), count_before_more v b (i + d) (omega arith), ap (count_before b v) e)

pub count_before_past : (v : Bool) (b : List Bool) (i : ℕ) → length b ≤ i → count_before b v i ≡ count_before b v (length b)
unfolding zeros_before
count_before_past true b i l = ones_before_past b i l
count_before_past false b i l = ap (count_by not) (take_all i b l ∙ sym (take_all (length b) b (omega arith)))

-- no fewer items of a kind stand before a later position
pub count_before-le : (b : List Bool) (v : Bool) (i j : ℕ) → i ≤ j → count_before b v i ≤ count_before b v j
count_before-le b v i j l =
    ⊎_elim
    (λ inside. let e : i + (j - i) ≡ j = omega arith in
    omega (arith, count_before_grows v b i (j - i) (omega arith), ap (count_before b v) e))
    (λ past. ⊎_elim
    (λ inside. let e : i + (length b - i) ≡ length b = omega arith in
    omega (arith, count_before_grows v b i (length b - i) (omega arith), ap (count_before b v) e, count_before_past v b j (omega arith)))
    (λ both. omega (arith, count_before_past v b i both, count_before_past v b j (omega arith)))
    (cases_lt i (length b)))
    (cases_lt j (length b))

pub count_before-none : (b : List Bool) (v : Bool) → count_before b v 0 ≡ 0
count_before-none b true = ones_before_none b
count_before-none b false = zeros_before_none b

-- no more ones stand before any position than there are
pub ones_before-at_most_all : (b : List Bool) (i : ℕ) → ones_before b i ≤ ones_before b (length b)
ones_before-at_most_all b i =
    ⊎_elim
    (λ inside. count_before-le b true i (length b) (omega arith))
    (λ past. omega (arith, ones_before_past b i past))
    (cases_lt i (length b))

-- the words of a stretch fit, where all do
fits_in_stretch : (words : List ℕ) (a n : ℕ) → ((k : ℕ) → get_or words k 0 < 2 ^ 64) → (k : ℕ) → get_or (take n (drop a words)) k 0 < 2 ^ 64
fits_in_stretch words a n fit k =
    ⊎_elim
    (λ inside. omega (arith, get_or-take n (drop a words) k 0 inside, get_or-drop a words k 0, fit (a + k)))
    (λ past. omega (arith, get_or_past (take n (drop a words)) k 0 (omega (arith, length-take n (drop a words)))))
    (cases_lt k n)

-- the ones of the n words from word a on
pub ones_before-bits_of_stretch : (words : List ℕ) (a n : ℕ) → a + n ≤ length words → ((k : ℕ) → get_or words k 0 < 2 ^ 64)
    → ones_before (bits_of words) (64 * a) + ones_of (bits_of (take n (drop a words)))
    ≡ ones_before (bits_of words) (64 * (a + n))
ones_before-bits_of_stretch words a n within fit =
    let both = sum_by-take-drop count_ones (take (a + n) words) a in
    let front = ap (sum_by count_ones) (take-take a (a + n) words (omega arith)) in
    let back = ap (sum_by count_ones) (drop-take a n words) in
    omega (
      arith,
      both,
      front,
      back,
      ones_before-bits_of_front words fit a (omega arith),
      ones_before-bits_of_front words fit (a + n) within,
      ones_of-bits_of (take n (drop a words)) (fits_in_stretch words a n fit),
    )

-- each bit is a one or a zero
pub ones_of-add-zeros_of : (words : List ℕ) → ones_of (bits_of words) + zeros_of (bits_of words) ≡ 64 * length words
ones_of-add-zeros_of words =
    ones_before-add-zeros_before (bits_of words) (length (bits_of words)) (omega arith) ∙ length-bits_of words

-- there are no more ones than bits (a name that an attribute can write)
pub few_ones : (words : List ℕ) → ones_of (bits_of words) ≤ 64 * length words
few_ones words = omega (arith, ones_of-add-zeros_of words)
