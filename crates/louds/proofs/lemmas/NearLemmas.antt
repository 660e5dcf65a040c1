-- Zeros of one word up to a position, as they stand among all.
use Rattle.std.proofs.Common.{◌≡◌, ℕ, ◌+◌, ◌*◌, ◌/◌, ◌%◌, ◌<◌, ◌≤◌, true, false, List, [], ◌∷◌, length, get_or, refl, sym, ◌∙◌, ⊎_elim, arith}
use Rattle.std.proofs.lemmas.Bool.{cases_lt}
use Rattle.bit_lists.proofs.BitLaws.{bit_is_digit, bits_are_counted}
use Rattle.bit_lists.specs.Bits.{bits_of, item}
use Rattle.bit_lists.specs.Count.{IsLastTo}

module _ (words : List ℕ) (end w : ℕ) (inside : end < length (bits_of words)) (is : w ≡ get_or words (end / 64) 0) where
  -- a bit of the word alone is that of the content
  alone : (i : ℕ) → i ≤ end → end / 64 ≡ i / 64 → item (bits_of (w ∷ [])) (i % 64) ≡ item (bits_of words) i
  alone i order same =
      let here = bit_is_digit (w ∷ []) (i % 64) (omega (arith, bits_are_counted (w ∷ []))) in
      let there = bit_is_digit words i (omega (arith, bits_are_counted words)) in
      let first : i % 64 / 64 ≡ 0 = omega arith in
      let low : i % 64 % 64 ≡ i % 64 = omega arith in
      let only : get_or (w ∷ []) 0 0 ≡ w = refl in
      cc

  module _ (to : ℕ) (order : end ≤ to) (ones : (i : ℕ) → end < i → i ≤ to → item (bits_of words) i ≡ true) where
    -- the word's last zero, before ones alone, is the last of all
    pub last-found : (p : ℕ) → IsLastTo (bits_of (w ∷ [])) false (end % 64) p → IsLastTo (bits_of words) false to (64 * (end / 64) + p)
    last-found p h =
        let low : p < 64 = omega (arith, h.inside, bits_are_counted (w ∷ [])) in
        let position : (64 * (end / 64) + p) % 64 ≡ p = omega arith in
        record {
          to = omega (arith, h.to);
          inside = omega (arith, h.to);
          is = sym (alone (64 * (end / 64) + p) (omega (arith, h.to)) (omega arith)) ∙ rw position h.is;
          greatest = λ i more most.
              ⊎_elim (λ late. ones i late most)
              (λ early. sym (alone i (omega arith) (omega arith)) ∙ h.greatest (i % 64) (omega arith) (omega arith))
              (cases_lt end i);
        }

    -- where it has none, ones stand from its start on
    pub last-none : ((p : ℕ) → p ≤ end % 64 → item (bits_of (w ∷ [])) p ≡ true)
        → (i : ℕ) → 64 * (end / 64) ≤ i → i ≤ to → item (bits_of words) i ≡ true
    last-none none i least most =
        ⊎_elim (λ late. ones i late most)
        (λ early. sym (alone i (omega arith) (omega arith)) ∙ none (i % 64) (omega arith))
        (cases_lt end i)
