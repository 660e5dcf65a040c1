-- The positions of a range, word by word: which digits of a word they are, and items that are combined
-- there and kept beside.
use Rattle.std.proofs.Common.{◌≡◌, ◌≢◌, ℕ, zero, suc, ◌+◌, ◌-◌, ◌*◌, ◌/◌, ◌%◌, ◌^◌, ◌<◌, ◌≤◌, ◌⊎◌, Bool, true, false, not, ◌&&◌, List, length, get_or, min, refl, sym, ap, ◌∙◌, inl, inr, arith, eqb, ltb, bit_and, set, length-set, get_or-set_same, get_or-set_other, ⊎_elim}
use Rattle.std.proofs.lemmas.Bool.{cases_lt, le-leb, lt-leb, lt-ltb, le-ltb}
use Rattle.std.proofs.lemmas.List.{get_or_past}
use Rattle.std.proofs.Math.Pow.{pow_mono}
use Rattle.std.proofs.lemmas.Nat.Bits.{bit_at_ones, bit_at_ones_above}
use Rattle.std.specs.Int.{bit_not, w64}
use Rattle.bit_lists.proofs.lemmas.BitsLemmas.{item-bits_of_at, length-bits_of}
use Rattle.bit_lists.specs.Bits.{bits_of, digit, item}
use Rattle.bit_words.proofs.lemmas.CombineLemmas.{digit-and_not}
use Rattle.bit_words.specs.Combined.{combined, in_range}

-- ---- whether a position is one of the range

pub in_range-inside : (from to i : ℕ) → from ≤ i → i < to → in_range from to i ≡ true
in_range-inside from to i after before = ap (λ x. x && ltb i to) (le-leb from i after) ∙ lt-ltb i to before

pub in_range-outside : (from to i : ℕ) → (i < from) ⊎ (to ≤ i) → in_range from to i ≡ false
in_range-outside from to i (inl before) = ap (λ x. x && ltb i to) (lt-leb from i before)
in_range-outside from to i (inr past) =
    ⊎_elim
    (λ (before : i < from). ap (λ x. x && ltb i to) (lt-leb from i before))
    (λ (after : from ≤ i). ap (λ x. x && ltb i to) (le-leb from i after) ∙ le-ltb i to past)
    (cases_lt i from)

-- the lowest digits are ones, and no others
digit-ones : (n j : ℕ) → j < n → digit (2 ^ n - 1) j ≡ true
digit-ones n j l = ap (λ d. eqb d 1) (bit_at_ones n j l)

digit-ones_above : (n j : ℕ) → n ≤ j → digit (2 ^ n - 1) j ≡ false
digit-ones_above n j l = ap (λ d. eqb d 1) (bit_at_ones_above n j l)

-- `high & !low`
pub mask_digit : (k from to high low a b j : ℕ) → high ≡ min (to - 64 * k) 64 → low ≡ min (from - 64 * k) 64
    → a ≡ 2 ^ high - 1 → b ≡ 2 ^ low - 1 → j < 64 → digit (bit_and a (bit_not w64 b)) j ≡ in_range from to (64 * k + j)
mask_digit k from to high low a b j up down a_is b_is less =
    digit-and_not a b j fits less
    ∙ ⊎_elim
    (λ (before : 64 * k + j < to).
    ap (λ x. x && not (digit b j)) (ap (λ n. digit n j) a_is ∙ digit-ones high j (omega arith))
    ∙ ⊎_elim
    (λ (early : 64 * k + j < from).
    ap not (ap (λ n. digit n j) b_is ∙ digit-ones low j (omega arith)) ∙ sym (in_range-outside from to (64 * k + j) (inl early)))
    (λ (after : from ≤ 64 * k + j).
    ap not (ap (λ n. digit n j) b_is ∙ digit-ones_above low j (omega arith)) ∙ sym (in_range-inside from to (64 * k + j) after before))
    (cases_lt (64 * k + j) from))
    (λ (past : to ≤ 64 * k + j).
    ap (λ x. x && not (digit b j)) (ap (λ n. digit n j) a_is ∙ digit-ones_above high j (omega arith))
    ∙ sym (in_range-outside from to (64 * k + j) (inr past)))
    (cases_lt (64 * k + j) to)
  where
    fits : b < 2 ^ 64
    fits =
        let few : low ≤ 64 = omega arith in
        let most : 2 ^ low ≤ 2 ^ 64 = pow_mono few in
        omega (arith, b_is, most)

-- ---- items

-- an item is left where the other is false
pub combined-outside : (op : ℕ) (x : Bool) → op ≢ 0 → combined op x false ≡ x
combined-outside zero x some = absurd (some refl)
combined-outside (suc zero) true some = refl
combined-outside (suc zero) false some = refl
combined-outside (suc (suc zero)) x some = refl
combined-outside (suc (suc (suc op))) true some = refl
combined-outside (suc (suc (suc op))) false some = refl

-- words of which those before word k are combined where the range is, and the others as they were
pub record AreRanged (op from to : ℕ) (old new : List ℕ) (k : ℕ) : Type 0 where
  pub len : length new ≡ length old
  pub done : (q j : ℕ) → q < k → j < 64 → digit (get_or new q 0) j ≡ combined op (digit (get_or old q 0) j) (in_range from to (64 * q + j))
  pub rest : (q : ℕ) → k ≤ q → get_or new q 0 ≡ get_or old q 0

module _ (op from to : ℕ) (old : List ℕ) (some : op ≢ 0) where
  pub AreRanged-start : AreRanged op from to old old (from / 64)
  AreRanged-start = record {
    len = refl;
    done = λ q j before low.
        let x = digit (get_or old q 0) j in
        sym (ap (combined op x) (in_range-outside from to (64 * q + j) (inl (omega arith))) ∙ combined-outside op x some);
    rest = λ q from. refl;
  }

  pub AreRanged-next : (new : List ℕ) (k w : ℕ) → AreRanged op from to old new k → k < length old
      → ((j : ℕ) → j < 64 → digit w j ≡ combined op (digit (get_or new k 0) j) (in_range from to (64 * k + j)))
      → AreRanged op from to old (set new k w) (k + 1)
  AreRanged-next new k w are inside word = record {
    len = length-set new k w ∙ are.len;
    done = λ q j before low. ⊎_elim
        (λ (less : q < k). ap (λ (x : ℕ). digit x j) (get_or-set_other new k q w 0 (λ (e : q ≡ k). omega (arith, e, less))) ∙ are.done q j less low)
        (λ (least : k ≤ q).
        let here : q ≡ k = omega (arith, before, least) in
        ap (λ (p : ℕ). digit (get_or (set new k w) p 0) j) here
        ∙ ap (λ (x : ℕ). digit x j) (get_or-set_same new k w 0 (omega (arith, are.len)))
        ∙ word j low
        ∙ ap (λ (x : ℕ). combined op (digit x j) (in_range from to (64 * k + j))) (are.rest k (omega arith))
        ∙ ap (λ (p : ℕ). combined op (digit (get_or old p 0) j) (in_range from to (64 * p + j))) (sym here))
        (cases_lt q k);
    rest = λ q from. get_or-set_other new k q w 0 (λ (e : q ≡ k). omega (arith, e, from)) ∙ are.rest q (omega (arith, from));
  }

  module _ (new : List ℕ) (k : ℕ) (are : AreRanged op from to old new k) (all : to ≤ 64 * k) where
    pub item_ranged : (i : ℕ) → i < 64 * length old → item (bits_of new) i ≡ combined op (item (bits_of old) i) (in_range from to i)
    item_ranged i within =
        let q = i / 64 in
        let j = i % 64 in
        let position : i ≡ 64 * q + j = omega arith in
        let low : j < 64 = omega arith in
        let then = item-bits_of_at new i q j position low (omega (arith, are.len)) in
        let was = item-bits_of_at old i q j position low (omega arith) in
        ⊎_elim
        (λ (before : q < k).
        then ∙ are.done q j before low
        ∙ ap (λ p. combined op (digit (get_or old q 0) j) (in_range from to p)) (sym position)
        ∙ ap (λ x. combined op x (in_range from to i)) (sym was))
        (λ (past : k ≤ q).
        then ∙ ap (λ x. digit x j) (are.rest q past) ∙ sym was
        ∙ sym (ap (combined op (item (bits_of old) i)) (in_range-outside from to i (inr (omega arith))) ∙ combined-outside op (item (bits_of old) i) some))
        (cases_lt q k)

    pub item_inside : (i : ℕ) → from ≤ i → i < to → to ≤ 64 * length old → item (bits_of new) i ≡ combined op (item (bits_of old) i) true
    item_inside i after before room =
        item_ranged i (omega arith) ∙ ap (combined op (item (bits_of old) i)) (in_range-inside from to i after before)

    pub item_beside : (i : ℕ) → (i < from) ⊎ (to ≤ i) → item (bits_of new) i ≡ item (bits_of old) i
    item_beside i out =
        ⊎_elim
        (λ (within : i < 64 * length old).
        item_ranged i within ∙ ap (combined op (item (bits_of old) i)) (in_range-outside from to i out)
        ∙ combined-outside op (item (bits_of old) i) some)
        (λ (past : 64 * length old ≤ i).
        get_or_past (bits_of new) i false (omega (arith, past, are.len, length-bits_of new))
        ∙ sym (get_or_past (bits_of old) i false (omega (arith, past, length-bits_of old))))
        (cases_lt i (64 * length old))
