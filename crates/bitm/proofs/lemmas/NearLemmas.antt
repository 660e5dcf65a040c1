-- Zeros of one word, as they stand among all.
use Rattle.std.proofs.Common.{◌≡◌, ℕ, ◌+◌, ◌*◌, ◌/◌, ◌%◌, ◌<◌, ◌≤◌, true, false, List, [], ◌∷◌, length, get_or, sym, ap, ◌∙◌, ⊎_elim, arith}
use Rattle.std.proofs.lemmas.Bool.{cases_lt}
use Rattle.bit_lists.proofs.lemmas.BitsLemmas.{item-bits_of_at, length-bits_of}
use Rattle.bit_lists.specs.Bits.{bits_of, digit, item}
use Rattle.bit_lists.specs.Count.{IsFirstFrom}

module _ (words : List ℕ) (q w : ℕ) (inside : q < length words) (is : w ≡ get_or words q 0) where
  -- a bit of the word alone is that of the content
  alone : (i j : ℕ) → i ≡ 64 * q + j → j < 64 → item (bits_of (w ∷ [])) j ≡ item (bits_of words) i
  alone i j e low =
      item-bits_of_at (w ∷ []) j 0 j (omega arith) low (omega arith)
      ∙ ap (λ x. digit x j) is
      ∙ sym (item-bits_of_at words i q j e low inside)

  module _ (from start : ℕ) (here : start / 64 ≡ q) (order : from ≤ start)
      (ones : (i : ℕ) → from ≤ i → i < start → item (bits_of words) i ≡ true) where
    -- the word's first zero, behind ones alone, is the first of all
    pub near-found : (p : ℕ) → IsFirstFrom (bits_of (w ∷ [])) false (start % 64) p → IsFirstFrom (bits_of words) false from (64 * q + p)
    near-found p h =
        let low : p < 64 = omega (arith, h.inside, length-bits_of (w ∷ [])) in
        record {
          from = omega (arith, h.from);
          inside = omega (arith, length-bits_of words);
          is = sym (alone (64 * q + p) p (omega arith) low) ∙ h.is;
          least = λ i le less.
              ⊎_elim (λ early. ones i le early)
              (λ late. sym (alone i (i % 64) (omega arith) (omega arith)) ∙ h.least (i % 64) (omega arith) (omega arith))
              (cases_lt i start);
        }

    -- where it has none, ones go on to its end
    pub near-none : ((p : ℕ) → start % 64 ≤ p → p < length (bits_of (w ∷ [])) → item (bits_of (w ∷ [])) p ≡ true)
        → (i : ℕ) → from ≤ i → i < 64 * q + 64 → item (bits_of words) i ≡ true
    near-none none i le less =
        ⊎_elim (λ early. ones i le early)
        (λ late. sym (alone i (i % 64) (omega arith) (omega arith)) ∙ none (i % 64) (omega arith) (omega (arith, length-bits_of (w ∷ []))))
        (cases_lt i start)
