-- Strings whose numbers are found and written.
use Rattle.std.proofs.Common.{◌≡◌, ◌≢◌, ℕ, suc, ◌+◌, ◌-◌, ◌<◌, ◌≤◌, List, length, set, slice_index, Option, Some, None, IsSome, sym, ap, ◌∙◌, ⊎_elim, arith}
use Rattle.std.proofs.lemmas.Bool.{cases_lt}
use Rattle.hash_block.specs.Given.{piece_of, string_begin, total_of, AreArranged, AreGiven, AreNumbersApart, AreStringsPlaced, HaveNumbers}
use Rattle.hash_block.specs.StringsParts.{AreStored}
use Rattle.hash_block.proofs.GivenLemmas.{after_first, total_more}

-- a string begins where the one before it ends
pub begin_next : (ends : List ℕ) (i : ℕ) → string_begin ends (i + 1) ≡ slice_index ends i
begin_next ends i =
    let back : i + 1 - 1 ≡ i = omega arith in
    after_first ends 0 (i + 1) (omega arith) ∙ ap (slice_index ends) back

-- with one more string there are its bytes more
pub total_placed : (bytes ends order : List ℕ) (v i : ℕ) → AreGiven bytes ends → i < length ends → slice_index order v ≡ 0 → v < length ends
    → length ends ≤ length order → total_of ends order (length ends) ≡ string_begin ends i
    → total_of ends (set order v (i + 1)) (length ends) ≡ string_begin ends (i + 1)
total_placed bytes ends order v i are inside free less long so_far =
    let more = total_more ends order v (i + 1) (length ends) free (omega (arith, less, long)) less in
    let next : i + 1 ≡ suc i = omega arith in
    let piece = ap (piece_of ends) next in
    omega (arith, more, piece, so_far, begin_next ends i, are.rise i inside)

module _ (number : ℕ → Option ℕ) (n : ℕ) (order : List ℕ) (placed : AreStringsPlaced number n n order) where
  value : (v w : ℕ) → Some v ≡ Some w → v ≡ w
  value v w same = cc

  -- where each number is that of a string, the strings have numbers
  pub numbers_of_order : AreNumbersApart number n → ((v : ℕ) → v < n → slice_index order v ≢ 0) → HaveNumbers number n
  numbers_of_order apart some = record {
    some = apart.some;
    below = λ i v less is. let h = placed.each i less in omega (arith, h.2, value h.0 v (sym h.1 ∙ is));
    apart = apart.apart;
    onto = λ v less. let h = placed.back v less (some v less) in (h.0, h.1, h.2);
  }

  pub order_of_numbers : HaveNumbers number n → (v : ℕ) → v < n → slice_index order v ≢ 0
  order_of_numbers numbers v less none =
      let at = numbers.onto v less in
      let h = placed.each at.0 at.1 in
      let same = value h.0 v (sym h.1 ∙ at.2) in
      omega (arith, none, h.3, ap (slice_index order) same)

-- strings that are arranged in this order are stored
pub stored_of_order : (number : ℕ → Option ℕ) (bytes ends order starts words : List ℕ) → AreStringsPlaced number (length ends) (length ends) order
    → ((v : ℕ) → v < length ends → slice_index order v ≢ 0) → AreArranged bytes ends order starts words → AreStored number bytes ends starts words
stored_of_order number bytes ends order starts words placed some arranged = record {
  first = arranged.first;
  each = λ v less.
      let h = placed.back v less (some v less) in
      (h.0, h.1, h.2, arranged.each v h.0 less h.3);
  last = arranged.last;
  padding = arranged.padding;
}

-- what is none is not some
pub is_none : (o : Option ℕ) → o ≡ None → IsSome o → ⊥
is_none None is some = cc
is_none (Some v) is some = cc
