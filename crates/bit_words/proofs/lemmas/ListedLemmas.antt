-- Bits that are written position by position.
use Rattle.std.proofs.Common.{◌≡◌, ◌≢◌, ℕ, zero, suc, ◌+◌, ◌<◌, ◌≤◌, ◌⊎◌, Bool, true, false, List, [], ◌∷◌, ◌++◌, length, if◌then◌else◌, nat_eq, ne_eqb, not, inl, inr, subst, sym, ap, ◌∙◌, refl, ⊎_elim, arith}
use Rattle.std.proofs.lemmas.Bool.{cases_eq, cases_lt}
use Rattle.std.proofs.lemmas.List.Elements.{Contains-append_left, Contains-push, Contains-push_cases}
use Rattle.std.specs.List.{Contains}
use Rattle.bit_lists.proofs.lemmas.BesideLemmas.{item-with_number_beside}
use Rattle.bit_lists.proofs.lemmas.NumberLemmas.{item-with_number_inside, length-with_number}
use Rattle.bit_lists.specs.Bits.{digit, item}
use Rattle.bit_lists.specs.Count.{as_bit}
use Rattle.bit_lists.specs.Number.{with_number}
use Rattle.bit_words.specs.Listed.{IsSetAt}

-- the digit that is written
pub digit_of_kind : (k : ℕ) → digit (if not (nat_eq k 0) then 1 else 0) 0 ≡ as_bit k
digit_of_kind zero = refl
digit_of_kind (suc k) = ap (λ (e : Bool). digit (if not e then 1 else 0) 0) (ne_eqb (suc k) 0 (λ e. omega (arith, e)))

module _ (old mid : List Bool) (n : ℕ) (v : Bool) (ps : List ℕ) (p : ℕ) (before : IsSetAt old n v ps mid) where
  -- one more that is not among the bits
  pub listed_past : n ≤ p → IsSetAt old n v (ps ++ p ∷ []) mid
  listed_past past = record {
    listed = λ i l h. ⊎_elim (before.listed i l) (λ (e : p ≡ i). absurd (omega (arith, e))) (Contains-push_cases ps p i h);
    unchanged = λ i none. before.unchanged i (λ h. none (Contains-append_left ps (p ∷ []) i h));
    same_length = before.same_length;
  }

  -- one more that is
  pub listed_more : (x : ℕ) (new : List Bool) → p < n → n ≤ length old → new ≡ with_number mid p 1 x → digit x 0 ≡ v → IsSetAt old n v (ps ++ p ∷ []) new
  listed_more x new inside within is bit = record {
    listed = λ i l h. ⊎_elim
        (λ (e : i ≡ p). ap (λ k. item new k) e ∙ here)
        (λ (apart : i ≢ p). ⊎_elim (λ (early : Contains ps i). beside i apart ∙ before.listed i l early) (λ (e : p ≡ i). absurd (apart (sym e))) (Contains-push_cases ps p i h))
        (cases_eq i p);
    unchanged = λ i none. ⊎_elim
        (λ (e : i ≡ p). absurd (omega (arith, none (subst (Contains (ps ++ p ∷ [])) (sym e) (Contains-push ps p)), e)))
        (λ (apart : i ≢ p). beside i apart ∙ before.unchanged i (λ h. none (Contains-append_left ps (p ∷ []) i h)))
        (cases_eq i p);
    same_length = ap length is ∙ length-with_number mid p 1 x room ∙ before.same_length;
  }
    where
      room : p + 1 ≤ length mid
      room = omega (arith, before.same_length)

      here : item new p ≡ v
      here =
          let e : p ≡ p + 0 = omega arith in
          ap (λ b. item b p) is ∙ ap (item (with_number mid p 1 x)) e ∙ item-with_number_inside mid p 1 x 0 room (omega arith) ∙ bit

      beside : (i : ℕ) → i ≢ p → item new i ≡ item mid i
      beside i apart =
          ap (λ b. item b i) is
          ∙ item-with_number_beside mid p 1 x i room (⊎_elim (λ (less : i < p). inl less) (λ (from : p ≤ i). inr (omega (arith, apart))) (cases_lt i p))
