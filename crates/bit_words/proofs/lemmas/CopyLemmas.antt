-- Bits that are copied number by number; a word that is written.
use Rattle.std.proofs.Common.{◌≡◌, ◌≢◌, ℕ, ◌+◌, ◌-◌, ◌*◌, ◌<◌, ◌≤◌, ◌⊎◌, Bool, true, false, List, length, get_or, set, eqb, length-set, subst, sym, ap, ◌∙◌, refl, inl, inr, ⊎_elim, arith}
use Rattle.std.proofs.lemmas.Bool.{cases_lt}
use Rattle.std.proofs.lemmas.Grind.{get_or-set_at}
use Rattle.std.proofs.lemmas.List.{get_or-set_other}
use Rattle.std.specs.Int.{bit_at}
use Rattle.bit_lists.proofs.lemmas.NumberLemmas.{bit_at-number_at, length-with_number, item-with_number_below, item-with_number_inside, item-with_number_above}
use Rattle.bit_lists.proofs.lemmas.WordLemmas.{truth}
use Rattle.bit_lists.specs.Bits.{bits_of, item}
use Rattle.bit_lists.specs.Number.{number_at, with_number}
use Rattle.bit_words.proofs.lemmas.WriteLemmas.{bits_of_is_with_number, IsPutWord}
use Rattle.bit_words.specs.Copied.{IsCopied}

-- ---- a word

pub word_written : (words : List ℕ) (k v : ℕ) → k < length words → bits_of (set words k v) ≡ with_number (bits_of words) (64 * k) 64 v
word_written words k v inside =
    bits_of_is_with_number words (set words k v) (64 * k) 64 v (length-set words k v) (omega arith)
    (λ q within. ⊎_elim
    (λ before. elsewhere q (inl before))
    (λ from. ⊎_elim (λ after. elsewhere q (inr after)) (λ to. here q (omega arith)) (cases_lt k q))
    (cases_lt q k))
  where
    here : (q : ℕ) → q ≡ k → IsPutWord (get_or words q 0) (get_or (set words k v) q 0) (64 * k) 64 v q
    here q same = record {
      inside = λ i j l e low. ap (λ w. bit_at w j) (get_or-set_at words k q v 0 same inside) ∙ ap (bit_at v) (let position : j ≡ i = omega arith in position);
      below = λ j low l. absurd (omega arith);
      above = λ j low l. absurd (omega arith);
    }

    elsewhere : (q : ℕ) → (q < k) ⊎ (k < q) → IsPutWord (get_or words q 0) (get_or (set words k v) q 0) (64 * k) 64 v q
    elsewhere q apart =
        let other : q ≢ k = λ e. ⊎_elim (λ before. omega arith) (λ after. omega arith) apart in
        let kept = get_or-set_other words k q v 0 other in
        record {
          inside = λ i j l e low. absurd (⊎_elim (λ before. omega arith) (λ after. omega arith) apart);
          below = λ j low l. ap (λ w. bit_at w j) kept;
          above = λ j low l. ap (λ w. bit_at w j) kept;
        }

-- ---- copies

digit-truth : (x : Bool) → eqb (truth x) 1 ≡ x
digit-truth true = refl
digit-truth false = refl

-- nothing is copied
pub copied_none : (source : List Bool) (from : ℕ) (old : List Bool) (to n : ℕ) → n ≡ 0 → IsCopied source from old to n old
copied_none source from old to n none = record {
  copied = λ i l. absurd (omega arith);
  unchanged = λ i apart. refl;
  same_length = refl;
}

-- one more number of w bits is copied
pub copied_more : (source : List Bool) (from : ℕ) (old : List Bool) (to n : ℕ) (mid : List Bool) (s t w : ℕ) (new : List Bool)
    → IsCopied source from old to n mid → s ≡ to + n → t ≡ from + n → to + (n + w) ≤ length old
    → new ≡ with_number mid s w (number_at source t w) → IsCopied source from old to (n + w) new
copied_more source from old to n mid s t w new before es et within is =
    subst (IsCopied source from old to (n + w)) (sym is) (record {
      copied = λ i l. ⊎_elim
          (λ (less : i < n). item-with_number_below mid s w v (to + i) room (omega arith) ∙ before.copied i less)
          (λ (past : n ≤ i).
          let k = i - n in
          let at : to + i ≡ s + k = omega arith in
          let from_there : t + k ≡ from + i = omega arith in
          ap (item (with_number mid s w v)) at
          ∙ item-with_number_inside mid s w v k room (omega arith)
          ∙ ap (λ d. eqb d 1) (bit_at-number_at source t w k (omega arith))
          ∙ digit-truth (item source (t + k))
          ∙ ap (item source) from_there)
          (cases_lt i n);
      unchanged = λ i apart. ⊎_elim
          (λ (less : i < to). item-with_number_below mid s w v i room (omega arith) ∙ before.unchanged i (inl less))
          (λ (past : to + (n + w) ≤ i). item-with_number_above mid s w v i room (omega arith) ∙ before.unchanged i (inr (omega arith)))
          apart;
      same_length = length-with_number mid s w v room ∙ before.same_length;
    })
  where
    v : ℕ
    v = number_at source t w

    room : s + w ≤ length mid
    room = omega (arith, before.same_length)

-- one copy after the other
pub copied_both : (source : List Bool) (from : ℕ) (old : List Bool) (to n : ℕ) (mid : List Bool) (s t w : ℕ) (new : List Bool)
    → IsCopied source from old to n mid → s ≡ to + n → t ≡ from + n → IsCopied source t mid s w new
    → IsCopied source from old to (n + w) new
copied_both source from old to n mid s t w new before es et after = record {
  copied = λ i l. ⊎_elim
      (λ (less : i < n). after.unchanged (to + i) (inl (omega arith)) ∙ before.copied i less)
      (λ (past : n ≤ i).
      let k = i - n in
      let at : to + i ≡ s + k = omega arith in
      let from_there : t + k ≡ from + i = omega arith in
      ap (item new) at ∙ after.copied k (omega arith) ∙ ap (item source) from_there)
      (cases_lt i n);
  unchanged = λ i apart. ⊎_elim
      (λ (less : i < to). after.unchanged i (inl (omega arith)) ∙ before.unchanged i (inl less))
      (λ (past : to + (n + w) ≤ i). after.unchanged i (inr (omega arith)) ∙ before.unchanged i (inr (omega arith)))
      apart;
  same_length = after.same_length ∙ before.same_length;
}

-- and also where the second copies nothing, wherever it begins
pub copied_words : (source : List Bool) (from : ℕ) (old : List Bool) (to n : ℕ) (mid : List Bool) (s t w : ℕ) (new : List Bool)
    → IsCopied source from old to n mid → (s ≡ to + n) ⊎ (w ≡ 0) → t ≡ from + n → IsCopied source t mid s w new
    → IsCopied source from old to (n + w) new
copied_words source from old to n mid s t w new before (inl es) et after = copied_both source from old to n mid s t w new before es et after
copied_words source from old to n mid s t w new before (inr none) et after = record {
  copied = λ i l. unchanged (to + i) ∙ before.copied i (omega arith);
  unchanged = λ i apart. unchanged i ∙ before.unchanged i (⊎_elim (λ (less : i < to). inl less) (λ (past : to + (n + w) ≤ i). inr (omega arith)) apart);
  same_length = after.same_length ∙ before.same_length;
}
  where
    unchanged : (i : ℕ) → item new i ≡ item mid i
    unchanged i = ⊎_elim (λ (less : i < s). after.unchanged i (inl less)) (λ (past : s ≤ i). after.unchanged i (inr (omega arith))) (cases_lt i s)
