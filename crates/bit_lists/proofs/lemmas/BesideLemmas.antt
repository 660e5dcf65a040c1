-- What a write leaves beside the items that it wrote, what zeros are, and how a count changes with one item.
use Rattle.std.proofs.Common.{◌≡◌, ℕ, zero, suc, ◌+◌, ◌-◌, ◌*◌, ◌/◌, ◌%◌, ◌^◌, ◌<◌, ◌≤◌, ◌⊎◌, Bool, true, false, not, List, [], ◌∷◌, ◌++◌, length, get_or, take, drop, replicate, eqb, sym, refl, ap, ◌∙◌, ⊎_elim, arith, count_by, length-append, length-take, length-drop}
use Rattle.std.proofs.lemmas.Bool.{cases_lt, false≢true}
use Rattle.std.proofs.lemmas.List.{append_assoc, ext_get_or, get_or-drop, get_or-take, get_or_past, length-replicate, get_or-replicate, take-take, take-append-le}
use Rattle.std.proofs.lemmas.Nat.Bits.{bit_at-zero, same_from_bits_below}
use Rattle.std.specs.Int.{bit_at}
use Rattle.bit_lists.proofs.lemmas.BitsLemmas.{length-bits_of, item-bits_of}
use Rattle.bit_lists.proofs.lemmas.CountLemmas.{ones_before-add-zeros_before, count_before_more}
use Rattle.bit_lists.proofs.lemmas.NumberLemmas.{number_at-lt, bit_at-number_at-bits_of, length-with_number, item-with_number_below, item-with_number_inside, item-with_number_above}
use Rattle.bit_lists.proofs.lemmas.PositionLemmas.{positions_none}
use Rattle.bit_lists.proofs.lemmas.WordLemmas.{truth}
use Rattle.bit_lists.specs.Bits.{digit, low_digits, bits_of, item}
use Rattle.bit_lists.specs.Count.{ones_before, zeros_before, count_before, is_same, bit_positions}
use Rattle.bit_lists.specs.Number.{number_of_bits, number_at, with_number}

-- ---- words

-- word k is the number of its 64 bits
pub number_at-word : (words : List ℕ) (k : ℕ) → k < length words → get_or words k 0 < 2 ^ 64
    → number_at (bits_of words) (64 * k) 64 ≡ get_or words k 0
number_at-word words k inside fits =
    same_from_bits_below 64 (number_at (bits_of words) (64 * k) 64) (get_or words k 0)
    (number_at-lt (bits_of words) (64 * k) 64 (omega (arith, length-bits_of words))) fits
    (λ j low. bit_at-number_at-bits_of words (64 * k) 64 j k j low refl low inside)

-- ---- zeros

-- words that are 0 have no ones
pub item-zeros : (count i : ℕ) → item (bits_of (replicate count 0)) i ≡ false
item-zeros count i =
    ⊎_elim
    (λ inside. item-bits_of words i inside
    ∙ ap (λ w. eqb (bit_at w (i % 64)) 1) (get_or-replicate count (i / 64) 0 0 (omega (arith, count_is)))
    ∙ ap (λ d. eqb d 1) (bit_at-zero (i % 64)))
    (λ past. get_or_past (bits_of words) i false (omega (arith, length-bits_of words)))
    (cases_lt i (64 * length words))
  where
    words : List ℕ
    words = replicate count 0

    count_is : length words ≡ count
    count_is = length-replicate {A = ℕ} count 0

-- no ones are counted where there are none
ones_before-none : (b : List Bool) (i : ℕ) → i ≤ length b → ((j : ℕ) → item b j ≡ false) → ones_before b i ≡ 0
unfolding ones_before
ones_before-none b zero l none = refl
ones_before-none b (suc i) l none =
    let step : suc i ≡ i + 1 = omega arith in
    omega (
      arith,
      ap (ones_before b) step,
      count_before_more true b i (omega arith),
      ap truth (none i),
      ones_before-none b i (omega arith) none,
    )

pub zeros-counted : (count i : ℕ) → i ≤ 64 * count
    → (ones_before (bits_of (replicate count 0)) i ≡ 0) × (zeros_before (bits_of (replicate count 0)) i ≡ i)
zeros-counted count i l =
    let within : i ≤ length (bits_of (replicate count 0)) =
    omega (arith, length-bits_of (replicate count 0), length-replicate {A = ℕ} count 0) in
    let none = ones_before-none (bits_of (replicate count 0)) i within (item-zeros count) in
    (none, omega (arith, none, ones_before-add-zeros_before (bits_of (replicate count 0)) i within))

number_of_zeros : (b : List Bool) → ((p : ℕ) → item b p ≡ false) → number_of_bits b ≡ 0
unfolding number_of_bits
number_of_zeros [] zeros = refl
number_of_zeros (true ∷ b) zeros = absurd (false≢true (sym (zeros 0)))
number_of_zeros (false ∷ b) zeros = omega (arith, number_of_zeros b (λ p. zeros (suc p)))

-- items that are zeros are the number 0
pub number_at-zeros : (b : List Bool) (s n : ℕ) → ((i : ℕ) → s ≤ i → i < s + n → item b i ≡ false) → number_at b s n ≡ 0
unfolding number_at
number_at-zeros b s n zeros =
    number_of_zeros (take n (drop s b))
    (λ p. ⊎_elim
    (λ inside. get_or-take n (drop s b) p false inside ∙ get_or-drop s b p false ∙ zeros (s + p) (omega arith) (omega arith))
    (λ past. get_or_past (take n (drop s b)) p false (omega (arith, length-take n (drop s b))))
    (cases_lt p n))

-- and so are no items
pub number_at-none : (b : List Bool) (s : ℕ) → number_at b s 0 ≡ 0
unfolding number_at number_of_bits
number_at-none b s = refl

-- ---- beside a write

pub item-with_number_beside : (b : List Bool) (s n v i : ℕ) → s + n ≤ length b → (i < s) ⊎ (s + n ≤ i)
    → item (with_number b s n v) i ≡ item b i
item-with_number_beside b s n v i within =
    ⊎_elim (item-with_number_below b s n v i within) (item-with_number_above b s n v i within)

-- items that are the same are the same number
same_number : (b c : List Bool) (s n : ℕ) → length b ≡ length c → ((i : ℕ) → s ≤ i → i < s + n → item b i ≡ item c i)
    → number_at b s n ≡ number_at c s n
unfolding number_at
same_number b c s n len same =
    ap number_of_bits (ext_get_or false (take n (drop s b)) (take n (drop s c))
    (omega (arith, length-take n (drop s b), length-take n (drop s c), length-drop s b, length-drop s c))
    (λ p l.
    let low : p < n = omega (arith, length-take n (drop s b)) in
    get_or-take n (drop s b) p false low ∙ get_or-drop s b p false ∙ same (s + p) (omega arith) (omega arith)
    ∙ sym (get_or-take n (drop s c) p false low ∙ get_or-drop s c p false)))

pub number_at-with_number_beside : (b : List Bool) (s n v t m : ℕ) → s + n ≤ length b → (t + m ≤ s) ⊎ (s + n ≤ t)
    → number_at (with_number b s n v) t m ≡ number_at b t m
number_at-with_number_beside b s n v t m within apart =
    same_number (with_number b s n v) b t m (length-with_number b s n v within)
    (λ i from to. ⊎_elim
    (λ before. item-with_number_below b s n v i within (omega arith))
    (λ after. item-with_number_above b s n v i within (omega arith))
    apart)

take-with_number : (b : List Bool) (s n v m : ℕ) → s + n ≤ length b → m ≤ s → take m (with_number b s n v) ≡ take m b
unfolding with_number
take-with_number b s n v m within l =
    take-append-le m (take s b ++ low_digits n v) (drop (s + n) b)
    (omega (arith, length-append (take s b) (low_digits n v), length-take s b))
    ∙ take-append-le m (take s b) (low_digits n v) (omega (arith, length-take s b))
    ∙ take-take m s b l

-- a count up to the write is as it was
pub count_before-with_number : (b : List Bool) (s n v : ℕ) (bit : Bool) (i : ℕ) → s + n ≤ length b → i ≤ s
    → count_before (with_number b s n v) bit i ≡ count_before b bit i
unfolding ones_before zeros_before
count_before-with_number b s n v true i within l = ap (count_by (λ x. x)) (take-with_number b s n v i within l)
count_before-with_number b s n v false i within l = ap (count_by not) (take-with_number b s n v i within l)

-- and after one item that was written it has changed by that item
count_after : (b : List Bool) (p d : ℕ) (v : Bool) (k : ℕ) → p + 1 + k ≤ length b
    → count_before (with_number b p 1 d) v (p + 1 + k) + truth (is_same v (item b p))
    ≡ count_before b v (p + 1 + k) + truth (is_same v (digit d 0))
count_after b p d v zero l =
    let c = with_number b p 1 d in
    let here : p + 0 ≡ p = omega arith in
    let next : p + 1 + 0 ≡ p + 1 = omega arith in
    let new : item c p ≡ digit d 0 = ap (item c) (sym here) ∙ item-with_number_inside b p 1 d 0 (omega arith) (omega arith) in
    omega (
      arith,
      ap (count_before c v) next,
      ap (count_before b v) next,
      count_before_more v c p (omega (arith, length-with_number b p 1 d (omega arith))),
      count_before_more v b p (omega arith),
      ap (λ x. truth (is_same v x)) new,
      count_before-with_number b p 1 d v p (omega arith) (omega arith),
    )
count_after b p d v (suc k) l =
    let c = with_number b p 1 d in
    let i = p + 1 + k in
    let next : p + 1 + suc k ≡ i + 1 = omega arith in
    omega (
      arith,
      ap (count_before c v) next,
      ap (count_before b v) next,
      count_before_more v c i (omega (arith, length-with_number b p 1 d (omega arith))),
      count_before_more v b i (omega arith),
      ap (λ x. truth (is_same v x)) (item-with_number_above b p 1 d i (omega arith) (omega arith)),
      count_after b p d v k (omega arith),
    )

count_after_at : (b : List Bool) (p d : ℕ) (v : Bool) (i : ℕ) → p < i → i ≤ length b
    → count_before (with_number b p 1 d) v i + truth (is_same v (item b p)) ≡ count_before b v i + truth (is_same v (digit d 0))
count_after_at b p d v i l within =
    let at : p + 1 + (i - (p + 1)) ≡ i = omega arith in
    omega (
      arith,
      count_after b p d v (i - (p + 1)) (omega arith),
      ap (count_before (with_number b p 1 d) v) at,
      ap (count_before b v) at,
    )

pub counts-set : (b : List Bool) (p i : ℕ) → p < i → i ≤ length b → item b p ≡ false
    → (ones_before (with_number b p 1 1) i ≡ ones_before b i + 1) × (zeros_before (with_number b p 1 1) i + 1 ≡ zeros_before b i)
counts-set b p i l within was = (
  omega (arith, count_after_at b p 1 true i l within, ap (λ x. truth (is_same true x)) was),
  omega (arith, count_after_at b p 1 false i l within, ap (λ x. truth (is_same false x)) was),
)

pub counts-cleared : (b : List Bool) (p i : ℕ) → p < i → i ≤ length b → item b p ≡ true
    → (ones_before (with_number b p 1 0) i + 1 ≡ ones_before b i) × (zeros_before (with_number b p 1 0) i ≡ zeros_before b i + 1)
counts-cleared b p i l within was = (
  omega (arith, count_after_at b p 0 true i l within, ap (λ x. truth (is_same true x)) was),
  omega (arith, count_after_at b p 0 false i l within, ap (λ x. truth (is_same false x)) was),
)

-- ---- a one after all others

with_number-set : (b : List Bool) (p : ℕ) → with_number b p 1 1 ≡ take p b ++ (true ∷ drop (suc p) b)
unfolding with_number low_digits
with_number-set b p =
    let e : p + 1 ≡ suc p = omega arith in
    ap (λ n. take p b ++ (true ∷ []) ++ drop n b) e ∙ append_assoc (take p b) (true ∷ []) (drop (suc p) b)

positions-last : (k : ℕ) (b : List Bool) (p : ℕ) → p < length b → ((q : ℕ) → p ≤ q → item b q ≡ false)
    → bit_positions true k (take p b ++ (true ∷ drop (suc p) b)) ≡ bit_positions true k b ++ (k + p) ∷ []
positions-last k [] p inside zeros = absurd (omega arith)
positions-last k (true ∷ b) zero inside zeros = absurd (false≢true (sym (zeros 0 (omega arith))))
positions-last k (false ∷ b) zero inside zeros =
    let none : bit_positions true (k + 1) b ≡ [] = positions_none (k + 1) b (λ q l. zeros (suc q) (omega arith)) in
    let e : k ≡ k + 0 = omega arith in
    ap (λ l. k ∷ l) none ∙ ap (λ n. n ∷ []) e ∙ sym (ap (λ l. l ++ (k + 0) ∷ []) none)
positions-last k (true ∷ b) (suc p) inside zeros =
    let e : k + 1 + p ≡ k + suc p = omega arith in
    ap (λ l. k ∷ l)
    (positions-last (k + 1) b p (omega arith) (λ q l. zeros (suc q) (omega arith)) ∙ ap (λ n. bit_positions true (k + 1) b ++ n ∷ []) e)
positions-last k (false ∷ b) (suc p) inside zeros =
    let e : k + 1 + p ≡ k + suc p = omega arith in
    positions-last (k + 1) b p (omega arith) (λ q l. zeros (suc q) (omega arith)) ∙ ap (λ n. bit_positions true (k + 1) b ++ n ∷ []) e

pub positions-set : (b : List Bool) (p : ℕ) → p < length b → ((i : ℕ) → p ≤ i → item b i ≡ false)
    → bit_positions true 0 (with_number b p 1 1) ≡ bit_positions true 0 b ++ p ∷ []
positions-set b p inside zeros =
    ap (bit_positions true 0) (with_number-set b p) ∙ positions-last 0 b p inside zeros
    ∙ ap (λ n. bit_positions true 0 b ++ n ∷ []) (let e : 0 + p ≡ p = omega arith in e)
