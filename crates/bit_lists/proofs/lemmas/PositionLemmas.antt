-- The rising list of positions of a kind of bit, one item after the other and word by word.
use Rattle.std.proofs.Common.{◌≡◌, ℕ, zero, suc, ◌+◌, ◌-◌, ◌^◌, ◌<◌, Bool, true, false, not, List, [], ◌∷◌, ◌++◌, length, get_or, eqb, sym, refl, ap, ◌∙◌, arith, length-append, count_ones, w64, ap₂, ◌≢◌, bit_and, append-nil}
use Rattle.std.proofs.lemmas.Bool.{false≢true}
use Rattle.std.proofs.lemmas.List.Sums.{sum_by-cons}
use Rattle.std.proofs.lemmas.Nat.Bits.{bit_at-lt, bit_at-zero, bit_at_not, bit_at-trailing_zeros}
use Rattle.std.specs.Int.{bit_at, bit_not, trailing_zeros}
use Rattle.bit_lists.proofs.lemmas.BitsLemmas.{length-low_digits, item-low_digits, same_bits, bits_of-cons, bits_of-nil}
use Rattle.bit_lists.proofs.lemmas.CountLemmas.{ones_of-bits_of}
use Rattle.bit_lists.proofs.lemmas.PickLemmas.{length-positions}
use Rattle.bit_lists.proofs.lemmas.WordLemmas.{bit_at-lowest_cleared_same, bit_at-lowest_cleared_other}
use Rattle.bit_lists.specs.Bits.{low_digits, bits_of, item}
use Rattle.bit_lists.specs.Coming.{coming, word_of_kind}
use Rattle.bit_lists.specs.Count.{count_of, bit_positions, as_bit}

-- ---- lists

pub positions-append : (v : Bool) (k : ℕ) (a b : List Bool) → bit_positions v k (a ++ b) ≡ bit_positions v k a ++ bit_positions v (k + length a) b
positions-append v k [] b = let e : k ≡ k + 0 = omega arith in ap (λ j. bit_positions v j b) e
positions-append true k (true ∷ a) b =
    let e : k + 1 + length a ≡ k + suc (length a) = omega arith in
    ap (λ l. k ∷ l) (positions-append true (k + 1) a b ∙ ap (λ j. bit_positions true (k + 1) a ++ bit_positions true j b) e)
positions-append true k (false ∷ a) b =
    let e : k + 1 + length a ≡ k + suc (length a) = omega arith in
    positions-append true (k + 1) a b ∙ ap (λ j. bit_positions true (k + 1) a ++ bit_positions true j b) e
positions-append false k (true ∷ a) b =
    let e : k + 1 + length a ≡ k + suc (length a) = omega arith in
    positions-append false (k + 1) a b ∙ ap (λ j. bit_positions false (k + 1) a ++ bit_positions false j b) e
positions-append false k (false ∷ a) b =
    let e : k + 1 + length a ≡ k + suc (length a) = omega arith in
    ap (λ l. k ∷ l) (positions-append false (k + 1) a b ∙ ap (λ j. bit_positions false (k + 1) a ++ bit_positions false j b) e)

pub positions_none : (k : ℕ) (b : List Bool) → ((i : ℕ) → i < length b → item b i ≡ false) → bit_positions true k b ≡ []
positions_none k [] none = refl
positions_none k (true ∷ b) none = absurd (false≢true (sym (none 0 (omega arith))))
positions_none k (false ∷ b) none = positions_none (k + 1) b (λ i l. none (suc i) (omega arith))

-- where c is b without its first one, at t
pub positions_first : (k t : ℕ) (b c : List Bool) → length c ≡ length b → t < length b → item b t ≡ true → item c t ≡ false
    → ((i : ℕ) → i < t → item b i ≡ false) → ((i : ℕ) → i < t → item c i ≡ false)
    → ((i : ℕ) → t < i → i < length b → item c i ≡ item b i)
    → bit_positions true k b ≡ (k + t) ∷ bit_positions true k c
positions_first k t [] c len l one none below_b below_c rest = absurd (omega arith)
positions_first k t (x ∷ b) [] len l one none below_b below_c rest = absurd (omega arith)
positions_first k zero (false ∷ b) (y ∷ c) len l one none below_b below_c rest = absurd (false≢true one)
positions_first k zero (true ∷ b) (true ∷ c) len l one none below_b below_c rest = absurd (false≢true (sym none))
positions_first k zero (true ∷ b) (false ∷ c) len l one none below_b below_c rest =
    let same : b ≡ c = sym (same_bits c b (omega arith) (λ i h. rest (suc i) (omega arith) (omega arith))) in
    let at : k ≡ k + 0 = omega arith in
    ap₂ (λ p q. p ∷ bit_positions true (k + 1) q) at same
positions_first k (suc t) (true ∷ b) (y ∷ c) len l one none below_b below_c rest = absurd (false≢true (sym (below_b 0 (omega arith))))
positions_first k (suc t) (false ∷ b) (true ∷ c) len l one none below_b below_c rest = absurd (false≢true (sym (below_c 0 (omega arith))))
positions_first k (suc t) (false ∷ b) (false ∷ c) len l one none below_b below_c rest =
    let at : k + 1 + t ≡ k + suc t = omega arith in
    positions_first (k + 1) t b c (omega arith) (omega arith) one none
    (λ i h. below_b (suc i) (omega arith)) (λ i h. below_c (suc i) (omega arith)) (λ i h m. rest (suc i) (omega arith) (omega arith))
    ∙ ap (λ p. p ∷ bit_positions true (k + 1) c) at

-- the zeros of b are the ones of c, where c is b negated
pub positions_negated : (k : ℕ) (b c : List Bool) → length c ≡ length b → ((i : ℕ) → i < length b → item c i ≡ not (item b i))
    → bit_positions false k b ≡ bit_positions true k c
positions_negated k [] [] len each = refl
positions_negated k [] (y ∷ c) len each = absurd (omega arith)
positions_negated k (x ∷ b) [] len each = absurd (omega arith)
positions_negated k (true ∷ b) (true ∷ c) len each = absurd (false≢true (sym (each 0 (omega arith))))
positions_negated k (true ∷ b) (false ∷ c) len each = positions_negated (k + 1) b c (omega arith) (λ i l. each (suc i) (omega arith))
positions_negated k (false ∷ b) (true ∷ c) len each =
    ap (λ l. k ∷ l) (positions_negated (k + 1) b c (omega arith) (λ i l. each (suc i) (omega arith)))
positions_negated k (false ∷ b) (false ∷ c) len each = absurd (false≢true (each 0 (omega arith)))

-- ---- words

no_positions : (k : ℕ) → bit_positions true k (low_digits 64 0) ≡ []
no_positions k =
    positions_none k (low_digits 64 0)
    (λ i l. item-low_digits 64 0 i (omega (arith, length-low_digits 64 0)) ∙ ap (λ d. eqb d 1) (bit_at-zero i))

pub coming_end : (v first : ℕ) → coming v first 0 [] ≡ []
coming_end v first = ap₂ (λ a b. a ++ bit_positions (as_bit v) (first + 64) b) (no_positions first) bits_of-nil

-- a digit of the complement
pub negation : (d e : ℕ) → d < 2 → e ≡ 1 - d → eqb e 1 ≡ not (eqb d 1)
negation zero e l is = ap (λ x. eqb x 1) is
negation (suc zero) e l is = ap (λ x. eqb x 1) is
negation (suc (suc d)) e l is = absurd (omega arith)

-- the zeros of a word are the ones of its complement
positions_of_word : (v k w : ℕ) → w < 2 ^ 64 → bit_positions (as_bit v) k (low_digits 64 w) ≡ bit_positions true k (low_digits 64 (word_of_kind v w))
positions_of_word zero k w fits =
    positions_negated k (low_digits 64 w) (low_digits 64 (bit_not w64 w)) (length-low_digits 64 (bit_not w64 w) ∙ sym (length-low_digits 64 w))
    (λ i l.
    let low : i < 64 = omega (arith, length-low_digits 64 w) in
    item-low_digits 64 (bit_not w64 w) i low
    ∙ negation (bit_at w i) (bit_at (bit_not w64 w) i) (bit_at-lt w i) (bit_at_not w64 w i fits low)
    ∙ ap not (sym (item-low_digits 64 w i low)))
positions_of_word (suc v) k w fits = refl

-- the positions in a content, by its first word
pub positions-cons : (v k w : ℕ) (rest : List ℕ) → w < 2 ^ 64 → bit_positions (as_bit v) k (bits_of (w ∷ rest)) ≡ coming v k (word_of_kind v w) rest
positions-cons v k w rest fits =
    ap (bit_positions (as_bit v) k) (bits_of-cons w rest)
    ∙ positions-append (as_bit v) k (low_digits 64 w) (bits_of rest)
    ∙ ap₂ (λ l n. l ++ bit_positions (as_bit v) (k + n) (bits_of rest)) (positions_of_word v k w fits) (length-low_digits 64 w)

pub positions_nil : (v k : ℕ) → bit_positions (as_bit v) k (bits_of []) ≡ []
positions_nil v k = ap (bit_positions (as_bit v) k) bits_of-nil

-- where nothing is left of the current word, the next word comes
pub coming_turn : (v first w : ℕ) (rest : List ℕ) → w < 2 ^ 64 → coming v first 0 (w ∷ rest) ≡ coming v (first + 64) (word_of_kind v w) rest
coming_turn v first w rest fits =
    ap (λ l. l ++ bit_positions (as_bit v) (first + 64) (bits_of (w ∷ rest))) (no_positions first) ∙ positions-cons v (first + 64) w rest fits

-- the lowest one of the current word comes first
pub coming_next : (v first current : ℕ) (rest : List ℕ) → 0 < current → current < 2 ^ 64
    → coming v first current rest ≡ (first + trailing_zeros w64 current) ∷ coming v first (bit_and current (current - 1)) rest
coming_next v first current rest some fits =
    ap (λ l. l ++ bit_positions (as_bit v) (first + 64) (bits_of rest))
    (positions_first first t b c (length-low_digits 64 after ∙ sym (length-low_digits 64 current))
    (omega (arith, low, length-low_digits 64 current))
    (item-low_digits 64 current t low ∙ ap (λ d. eqb d 1) lowest.1)
    (item-low_digits 64 after t low ∙ ap (λ d. eqb d 1) (bit_at-lowest_cleared_same current t lowest.1 lowest.2))
    (λ i l. item-low_digits 64 current i (omega (arith, low)) ∙ ap (λ d. eqb d 1) (lowest.2 i l))
    (λ i l. item-low_digits 64 after i (omega (arith, low)) ∙ ap (λ d. eqb d 1) (kept i (λ e. omega arith) ∙ lowest.2 i l))
    (λ i l m.
    let small : i < 64 = omega (arith, length-low_digits 64 current) in
    item-low_digits 64 after i small ∙ ap (λ d. eqb d 1) (kept i (λ e. omega arith)) ∙ sym (item-low_digits 64 current i small)))
  where
    t : ℕ
    t = trailing_zeros w64 current

    lowest : (t < 64) × (bit_at current t ≡ 1) × ((i : ℕ) → i < t → bit_at current i ≡ 0)
    lowest = bit_at-trailing_zeros w64 current some fits

    low : t < 64
    low = lowest.0

    after : ℕ
    after = bit_and current (current - 1)

    kept : (i : ℕ) → i ≢ t → bit_at after i ≡ bit_at current i
    kept i apart = bit_at-lowest_cleared_other current t lowest.1 lowest.2 i apart

    b : List Bool
    b = low_digits 64 current

    c : List Bool
    c = low_digits 64 after

-- ---- how many positions there are

-- the ones left in a word
length-positions_word : (k w : ℕ) → w < 2 ^ 64 → length (bit_positions true k (low_digits 64 w)) ≡ count_ones w
length-positions_word k w fits =
    let alone : bits_of (w ∷ []) ≡ low_digits 64 w =
    bits_of-cons w [] ∙ ap (λ b. low_digits 64 w ++ b) bits_of-nil ∙ append-nil (low_digits 64 w) in
    let none : count_ones w + 0 ≡ count_ones w = omega arith in
    let one : length (bit_positions true k (bits_of (w ∷ []))) ≡ count_ones w =
    length-positions true k (bits_of (w ∷ []))
    ∙ ones_of-bits_of (w ∷ []) only
    ∙ sum_by-cons count_ones w []
    ∙ none in
    ap (λ b. length (bit_positions true k b)) (sym alone) ∙ one
  where
    only : (j : ℕ) → get_or (w ∷ []) j 0 < 2 ^ 64
    only zero = fits
    only (suc j) = omega arith

pub length-coming : (v first current : ℕ) (rest : List ℕ) → current < 2 ^ 64
    → length (coming v first current rest) ≡ count_ones current + count_of (bits_of rest) (as_bit v)
length-coming v first current rest fits =
    omega (
      arith,
      length-append (bit_positions true first (low_digits 64 current)) (bit_positions (as_bit v) (first + 64) (bits_of rest)),
      length-positions_word first current fits,
      length-positions (as_bit v) (first + 64) (bits_of rest),
    )
