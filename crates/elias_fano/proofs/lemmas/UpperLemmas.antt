-- The ones of the upper vector: one more after all others, and which item each stands for.
use Rattle.std.proofs.Common.{◌≡◌, ℕ, ◌+◌, ◌-◌, ◌*◌, ◌/◌, ◌^◌, ◌<◌, ◌≤◌, true, false, List, [], ◌∷◌, ◌++◌, length, get_or, replicate, sym, refl, ap, ◌∙◌, arith, subst, inr}
use Rattle.std.proofs.Math.Nat.{div-mul-le_self}
use Rattle.std.proofs.lemmas.List.FromFn.{map-range_with_len_more, length-map-range_with_len, get_or-map-range_with_len}
use Rattle.std.proofs.lemmas.List.{length-replicate}
use Rattle.std.proofs.lemmas.Nat.{pow_pos, le-div}
use Rattle.std.specs.List.Sorted.{IsNonDecreasing}
use Rattle.bit_lists.proofs.BitLaws.{bits_are_counted, zeros_have_no_ones, zeros_are_counted, item_beside_is_kept, last_one_is_set, at_most_one_picked, positions_are_picked, positions_are_counted}
use Rattle.bit_lists.specs.Bits.{bits_of, item}
use Rattle.bit_lists.specs.Count.{ones_before, Picks, bit_positions}
use Rattle.bit_lists.specs.Number.{with_number}
use Rattle.elias_fano.specs.Parts.{upper_position, upper_positions, upper_words_of, IsUpper}

-- ---- where the one of an item stands

-- items without their low digits do not fall
upper-rises : (xs : List ℕ) (l j i : ℕ) → IsNonDecreasing xs → j ≤ i → i < length xs → get_or xs j 0 / 2 ^ l ≤ get_or xs i 0 / 2 ^ l
upper-rises xs l j i rising order inside =
    let no_less : get_or xs j 0 ≤ get_or xs i 0 = rising j i 0 order inside in
    let whole : get_or xs j 0 / 2 ^ l * 2 ^ l ≤ get_or xs j 0 = div-mul-le_self (get_or xs j 0) (2 ^ l) in
    le-div (get_or xs j 0 / 2 ^ l) (get_or xs i 0) (2 ^ l) (pow_pos l) (omega arith)

-- a later item has its one at a later position
pub upper_position-rises : (xs : List ℕ) (l j i : ℕ) → IsNonDecreasing xs → j < i → i < length xs → upper_position xs l j < upper_position xs l i
upper_position-rises xs l j i rising less inside = omega (arith, upper-rises xs l j i rising (omega arith) inside)

-- and no item at a position before
pub upper_position-le : (xs : List ℕ) (l j i : ℕ) → IsNonDecreasing xs → j ≤ i → i < length xs → upper_position xs l j ≤ upper_position xs l i
upper_position-le xs l j i rising order inside = omega (arith, upper-rises xs l j i rising order inside)

-- the one of an item is inside
pub upper_position-inside : (xs : List ℕ) (l i : ℕ) → IsNonDecreasing xs → i < length xs → upper_position xs l i < 64 * upper_words_of xs l
upper_position-inside xs l i rising inside =
    let last = length xs - 1 in
    let above : get_or xs i 0 / 2 ^ l ≤ get_or xs last 0 / 2 ^ l = upper-rises xs l i last rising (omega arith) (omega arith) in
    omega arith

-- item i of the positions is that of item i
pub position_of : (xs : List ℕ) (l : ℕ) (upper : List ℕ) (i : ℕ) → IsUpper xs l upper → i < length xs
    → get_or (bit_positions true 0 (bits_of upper)) i 0 ≡ upper_position xs l i
position_of xs l upper i h inside =
    ap (λ ps. get_or ps i 0) h.ones ∙ get_or-map-range_with_len (upper_position xs l) 0 (length xs) i i 0 inside (omega arith)

-- and there are as many positions as items
pub positions_are : (xs : List ℕ) (l : ℕ) (upper : List ℕ) → IsUpper xs l upper → length (bit_positions true 0 (bits_of upper)) ≡ length xs
positions_are xs l upper h = ap length h.ones ∙ length-map-range_with_len (upper_position xs l) 0 (length xs)

-- ---- which item a one stands for

-- the position of an item is picked by its number
pub one_is : (xs : List ℕ) (l : ℕ) (upper : List ℕ) (i : ℕ) → IsUpper xs l upper → i < length xs
    → Picks (bits_of upper) true i (upper_position xs l i)
one_is xs l upper i h inside =
    let P : ℕ → Type 0 = λ p. Picks (bits_of upper) true i p in
    subst P (position_of xs l upper i h inside) (positions_are_picked (bits_of upper) true i (omega (arith, positions_are xs l upper h)))

-- and no other position is
pub position_is : (xs : List ℕ) (l : ℕ) (upper : List ℕ) (i p : ℕ) → IsUpper xs l upper → i < length xs
    → Picks (bits_of upper) true i p → p ≡ upper_position xs l i
position_is xs l upper i p h inside here =
    at_most_one_picked (bits_of upper) true i p (upper_position xs l i) here (one_is xs l upper i h inside)

-- there are as many ones as items
pub ones_are : (xs : List ℕ) (l : ℕ) (upper : List ℕ) → IsUpper xs l upper
    → ones_before (bits_of upper) (length (bits_of upper)) ≡ length xs
ones_are xs l upper h = sym (positions_are_counted (bits_of upper) true) ∙ positions_are xs l upper h

-- ---- the ones of the first items

-- the ones of the bits are those of the first k items, and each position after them is a zero
pub record HasOnes (xs : List ℕ) (l k : ℕ) (upper : List ℕ) : Type 0 where
  pub ones : bit_positions true 0 (bits_of upper) ≡ upper_positions xs l k
  pub zeros : (q : ℕ) → ((j : ℕ) → j < k → upper_position xs l j < q) → item (bits_of upper) q ≡ false

pub HasOnes-none : (xs : List ℕ) (l count : ℕ) (upper : List ℕ) → upper ≡ replicate count 0 → HasOnes xs l 0 upper
HasOnes-none xs l count upper is = record {
  ones = no_positions (bit_positions true 0 (bits_of upper)) (omega (arith, positions_are_counted (bits_of upper) true, none));
  zeros = λ q _. zeros q;
}
  where
    zeros : (q : ℕ) → item (bits_of upper) q ≡ false
    zeros q = ap (λ w. item (bits_of w) q) is ∙ zeros_have_no_ones count q

    no_positions : (ps : List ℕ) → length ps ≡ 0 → ps ≡ []
    no_positions [] few = refl
    no_positions (p ∷ ps) few = absurd (omega arith)

    none : ones_before (bits_of upper) (length (bits_of upper)) ≡ 0
    none =
        ap (λ w. ones_before (bits_of w) (length (bits_of upper))) is
        ∙ (zeros_are_counted count (length (bits_of upper))
        (omega (arith, bits_are_counted upper, ap length is, length-replicate {A = ℕ} count 0))).0

-- the one of the next item
pub HasOnes-more : (xs : List ℕ) (l i : ℕ) (old new : List ℕ) → IsNonDecreasing xs → i < length xs → upper_position xs l i < 64 * length old
    → HasOnes xs l i old → bits_of new ≡ with_number (bits_of old) (upper_position xs l i) 1 1 → HasOnes xs l (i + 1) new
HasOnes-more xs l i old new rising here room h after = record {
  ones = ap (bit_positions true 0) after
      ∙ last_one_is_set (bits_of old) p inside (λ q le. h.zeros q (λ j less. omega (arith, upper_position-rises xs l j i rising less here)))
      ∙ ap (λ ps. ps ++ p ∷ []) h.ones
      ∙ sym (map-range_with_len_more (upper_position xs l) 0 i i (omega arith));
  zeros = λ q all. ap (λ b. item b q) after
      ∙ item_beside_is_kept (bits_of old) p 1 1 q (omega (arith, inside)) (inr (omega (arith, all i (omega arith))))
      ∙ h.zeros q (λ j less. all j (omega arith));
}
  where
    p : ℕ
    p = upper_position xs l i

    inside : p < length (bits_of old)
    inside = omega (arith, bits_are_counted old)
