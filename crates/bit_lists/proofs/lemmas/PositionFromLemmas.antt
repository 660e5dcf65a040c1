-- The positions of a kind of bit from some position on, by the word that has it.
use Rattle.std.proofs.Common.{◌≡◌, ℕ, zero, suc, ◌+◌, ◌-◌, ◌*◌, ◌/◌, ◌%◌, ◌^◌, ◌<◌, ◌≤◌, Bool, true, false, List, [], ◌∷◌, ◌++◌, length, get_or, take, drop, eqb, sym, refl, ap, ◌∙◌, arith, w64, ap₂, bit_and, length-take, length-drop}
use Rattle.std.proofs.Math.Seq.{drop-nil, drop-append-add, drop-cons}
use Rattle.std.proofs.lemmas.Bool.{false≢true}
use Rattle.std.proofs.lemmas.List.{drop_all, drop-append-le, take-append-drop}
use Rattle.std.proofs.lemmas.Nat.{pow_below}
use Rattle.std.proofs.lemmas.Nat.Bits.{bit_at-lt, bit_at_and, bit_at_not, bit_at_ones, bit_at_ones_above}
use Rattle.std.specs.Int.{bit_at, bit_not}
use Rattle.bit_lists.proofs.lemmas.BitsLemmas.{length-low_digits, item-low_digits, length-bits_of, same_bits, bits_of-cons}
use Rattle.bit_lists.proofs.lemmas.CountLemmas.{count_before-none}
use Rattle.bit_lists.proofs.lemmas.CutLemmas.{bits_of-append}
use Rattle.bit_lists.proofs.lemmas.PickLemmas.{count_before_after}
use Rattle.bit_lists.proofs.lemmas.PositionLemmas.{coming_end, negation, positions-append, positions_negated}
use Rattle.bit_lists.specs.Bits.{low_digits, bits_of, item, digit}
use Rattle.bit_lists.specs.Coming.{coming, word_of_kind}
use Rattle.bit_lists.specs.Count.{count_before, is_same, bit_positions, as_bit}

-- ---- lists

-- the positions from item i on are all but those of the items before it
pub positions-drop : (v : Bool) (k i : ℕ) (b : List Bool) → bit_positions v (k + i) (drop i b) ≡ drop (count_before b v i) (bit_positions v k b)
positions-drop v k zero b =
    let e : k + 0 ≡ k = omega arith in
    ap (λ j. bit_positions v j b) e ∙ ap (λ n. drop n (bit_positions v k b)) (sym (count_before-none b v))
positions-drop v k (suc i) [] = sym (drop-nil (count_before [] v (suc i)))
positions-drop true k (suc i) (true ∷ b) =
    let e : k + suc i ≡ k + 1 + i = omega arith in
    let n : suc (count_before b true i) ≡ count_before (true ∷ b) true (suc i) = omega (arith, count_before_after true true b i) in
    ap (λ j. bit_positions true j (drop i b)) e ∙ positions-drop true (k + 1) i b ∙ ap (λ m. drop m (k ∷ bit_positions true (k + 1) b)) n
positions-drop true k (suc i) (false ∷ b) =
    let e : k + suc i ≡ k + 1 + i = omega arith in
    let n : count_before b true i ≡ count_before (false ∷ b) true (suc i) = omega (arith, count_before_after true false b i) in
    ap (λ j. bit_positions true j (drop i b)) e ∙ positions-drop true (k + 1) i b ∙ ap (λ m. drop m (bit_positions true (k + 1) b)) n
positions-drop false k (suc i) (true ∷ b) =
    let e : k + suc i ≡ k + 1 + i = omega arith in
    let n : count_before b false i ≡ count_before (true ∷ b) false (suc i) = omega (arith, count_before_after false true b i) in
    ap (λ j. bit_positions false j (drop i b)) e ∙ positions-drop false (k + 1) i b ∙ ap (λ m. drop m (bit_positions false (k + 1) b)) n
positions-drop false k (suc i) (false ∷ b) =
    let e : k + suc i ≡ k + 1 + i = omega arith in
    let n : suc (count_before b false i) ≡ count_before (false ∷ b) false (suc i) = omega (arith, count_before_after false false b i) in
    ap (λ j. bit_positions false j (drop i b)) e ∙ positions-drop false (k + 1) i b ∙ ap (λ m. drop m (k ∷ bit_positions false (k + 1) b)) n

-- the ones of c are the items v of b from item s on, where c has ones there alone
pub positions_cleared : (v : Bool) (k s : ℕ) (b c : List Bool) → s ≤ length b → length c ≡ length b
    → ((i : ℕ) → i < s → item c i ≡ false) → ((i : ℕ) → s ≤ i → i < length b → item c i ≡ is_same v (item b i))
    → bit_positions true k c ≡ bit_positions v (k + s) (drop s b)
positions_cleared true k zero b c within len clear same =
    let e : k ≡ k + 0 = omega arith in
    ap₂ (λ j a. bit_positions true j a) e (same_bits c b len (λ i l. same i (omega arith) (omega (arith, len))))
positions_cleared false k zero b c within len clear same =
    let e : k ≡ k + 0 = omega arith in
    sym (positions_negated k b c len (λ i l. same i (omega arith) l)) ∙ ap (λ j. bit_positions false j b) e
positions_cleared v k (suc s) [] c within len clear same = absurd (omega arith)
positions_cleared v k (suc s) (x ∷ b) [] within len clear same = absurd (omega arith)
positions_cleared v k (suc s) (x ∷ b) (true ∷ c) within len clear same = absurd (false≢true (sym (clear 0 (omega arith))))
positions_cleared v k (suc s) (x ∷ b) (false ∷ c) within len clear same =
    let e : k + 1 + s ≡ k + suc s = omega arith in
    positions_cleared v (k + 1) s b c (omega arith) (omega arith)
    (λ i l. clear (suc i) (omega arith)) (λ i from l. same (suc i) (omega arith) (omega arith))
    ∙ ap (λ j. bit_positions v j (drop s b)) e

-- ---- words

-- a digit of the word in which the kind are ones
kind_of_digit : (v w i : ℕ) → w < 2 ^ 64 → i < 64 → digit (word_of_kind v w) i ≡ is_same (as_bit v) (digit w i)
kind_of_digit zero w i fits low = negation (bit_at w i) (bit_at (bit_not w64 w) i) (bit_at-lt w i) (bit_at_not w64 w i fits low)
kind_of_digit (suc v) w i fits low = refl

-- the positions of the kind from item s on, of a word: the ones that are left where the digits before s are cleared
positions_of_rest : (v k s w mask : ℕ) → w < 2 ^ 64 → s < 64 → mask ≡ 2 ^ s - 1
    → bit_positions true k (low_digits 64 (bit_and (word_of_kind v w) (bit_not w64 mask))) ≡ bit_positions (as_bit v) (k + s) (drop s (low_digits 64 w))
positions_of_rest v k s w mask fits low is =
    positions_cleared (as_bit v) k s (low_digits 64 w) (low_digits 64 x)
    (omega (arith, length-low_digits 64 w))
    (length-low_digits 64 x ∙ sym (length-low_digits 64 w))
    (λ i l.
    let m : bit_at mask i ≡ 1 = ap (λ y. bit_at y i) is ∙ bit_at_ones s i l in
    let none : bit_at x i ≡ 0 = omega (arith, bit_at_and (word_of_kind v w) (bit_not w64 mask) i, bit_at_not w64 mask i small (omega arith), m) in
    item-low_digits 64 x i (omega arith) ∙ ap (λ d. eqb d 1) none)
    (λ i from l.
    let inside : i < 64 = omega (arith, length-low_digits 64 w) in
    let m : bit_at mask i ≡ 0 = ap (λ y. bit_at y i) is ∙ bit_at_ones_above s i from in
    let kept : bit_at x i ≡ bit_at (word_of_kind v w) i =
    omega (arith, bit_at_and (word_of_kind v w) (bit_not w64 mask) i, bit_at_not w64 mask i small inside, m, bit_at-lt (word_of_kind v w) i) in
    item-low_digits 64 x i inside
    ∙ ap (λ d. eqb d 1) kept
    ∙ kind_of_digit v w i fits inside
    ∙ ap (is_same (as_bit v)) (sym (item-low_digits 64 w i inside)))
  where
    x : ℕ
    x = bit_and (word_of_kind v w) (bit_not w64 mask)

    small : mask < 2 ^ 64
    small = omega (arith, is, pow_below s 64 (omega arith))

-- from a word on, whose digits before the position are cleared, the positions from there on come
pub coming_from : (v : ℕ) (words : List ℕ) (start w mask : ℕ) → start / 64 < length words → w ≡ get_or words (start / 64) 0
    → w < 2 ^ 64 → mask ≡ 2 ^ (start % 64) - 1
    → coming v (start / 64 * 64) (bit_and (word_of_kind v w) (bit_not w64 mask)) (drop (start / 64 + 1) words)
    ≡ drop (count_before (bits_of words) (as_bit v) start) (bit_positions (as_bit v) 0 (bits_of words))
coming_from v words start w mask within read fits is =
    ap (λ l. l ++ bit_positions (as_bit v) (q * 64 + 64) (bits_of rest)) (positions_of_rest v (q * 64) s w mask fits (omega arith) is)
    ∙ ap (λ j. bit_positions (as_bit v) (q * 64 + s) (drop s (low_digits 64 w)) ++ bit_positions (as_bit v) j (bits_of rest)) after
    ∙ sym (positions-append (as_bit v) (q * 64 + s) (drop s (low_digits 64 w)) (bits_of rest))
    ∙ ap₂ (λ j b. bit_positions (as_bit v) j b) at (sym left)
    ∙ positions-drop (as_bit v) 0 start (bits_of words)
  where
    q : ℕ
    q = start / 64

    s : ℕ
    s = start % 64

    rest : List ℕ
    rest = drop (q + 1) words

    at : q * 64 + s ≡ 0 + start
    at = omega arith

    after : q * 64 + 64 ≡ q * 64 + s + length (drop s (low_digits 64 w))
    after = omega (arith, length-drop s (low_digits 64 w), length-low_digits 64 w)

    cut : drop q words ≡ w ∷ rest
    cut =
        let next : suc q ≡ q + 1 = omega arith in
        drop-cons words q 0 within ∙ ap₂ (λ y n. y ∷ drop n words) (sym read) next

    whole : bits_of words ≡ bits_of (take q words) ++ (low_digits 64 w ++ bits_of rest)
    whole =
        ap bits_of (sym (take-append-drop q words))
        ∙ bits_of-append (take q words) (drop q words)
        ∙ ap (λ b. bits_of (take q words) ++ b) (ap bits_of cut ∙ bits_of-cons w rest)

    passed : start ≡ length (bits_of (take q words)) + s
    passed = omega (arith, length-bits_of (take q words), length-take q words)

    left : drop start (bits_of words) ≡ drop s (low_digits 64 w) ++ bits_of rest
    left =
        ap₂ (λ n b. drop n b) passed whole
        ∙ drop-append-add (bits_of (take q words)) (low_digits 64 w ++ bits_of rest) s
        ∙ drop-append-le s (low_digits 64 w) (bits_of rest) (omega (arith, length-low_digits 64 w))

-- past the words nothing comes
pub coming_past : (v first : ℕ) (words : List ℕ) (start : ℕ) → length words ≤ start / 64
    → coming v first 0 [] ≡ drop (count_before (bits_of words) (as_bit v) start) (bit_positions (as_bit v) 0 (bits_of words))
coming_past v first words start past =
    let none : drop start (bits_of words) ≡ [] = drop_all start (bits_of words) (omega (arith, length-bits_of words)) in
    coming_end v first ∙ ap (bit_positions (as_bit v) (0 + start)) (sym none) ∙ positions-drop (as_bit v) 0 start (bits_of words)
