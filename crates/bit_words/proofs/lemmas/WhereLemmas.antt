-- Words are compared digit by digit, and bit vectors word by word.
use Rattle.std.proofs.Common.{◌≡◌, ℕ, ◌+◌, ◌-◌, ◌*◌, ◌/◌, ◌%◌, ◌^◌, ◌<◌, ◌≤◌, ◌↔◌, IsTrue, nat_eq, eqb, Bool, true, false, not, ◌&&◌, List, length, get_or, sym, ap, ◌∙◌, refl, ⊎_elim, arith}
use Rattle.std.proofs.lemmas.Bool.{cases_lt, eq-eqb, eqb-true}
use Rattle.std.proofs.lemmas.Nat.Bits.{bit_at-zero, bit_at_above, same_from_bits_below}
use Rattle.bit_lists.proofs.lemmas.BitsLemmas.{item-bits_of_at}
use Rattle.bit_lists.proofs.lemmas.NumberLemmas.{bit_at-number_at, number_at-lt}
use Rattle.bit_lists.proofs.lemmas.WordLemmas.{truth, truth-digit}
use Rattle.bit_lists.specs.Bits.{bits_of, digit, item}
use Rattle.bit_lists.specs.Count.{is_same}
use Rattle.bit_lists.specs.Number.{number_at}
use Rattle.bit_words.specs.Where.{HasWhere}

-- no other bit where the first one is a 1 bit
none_other : (x y v : Bool) → ((x && is_same (not v) y) ≡ false) ↔ (x ≡ true → y ≡ v)
none_other false y v = (λ e h. cc, λ h. refl)
none_other true true true = (λ e h. refl, λ h. refl)
none_other true true false = (λ e h. e, λ h. h refl)
none_other true false true = (λ e h. sym e, λ h. sym (h refl))
none_other true false false = (λ e h. refl, λ h. refl)

-- a word is 0 where no digit is 1
pub tested : (z a b : ℕ) (v : Bool) → z < 2 ^ 64 → ((j : ℕ) → j < 64 → digit z j ≡ (digit a j && is_same (not v) (digit b j)))
    → IsTrue (nat_eq z 0) ↔ ((j : ℕ) → j < 64 → digit a j ≡ true → digit b j ≡ v)
tested z a b v fits digits = (
  λ is j l. (none_other (digit a j) (digit b j) v).0 (sym (digits j l) ∙ ap (λ n. digit n j) (eqb-true z 0 is) ∙ ap (λ d. eqb d 1) (bit_at-zero j)),
  λ all. eq-eqb z 0
      (same_from_bits_below 64 z 0 fits (omega arith)
      (λ j l. sym (truth-digit z j) ∙ ap truth (digits j l ∙ (none_other (digit a j) (digit b j) v).1 (all j l)) ∙ sym (bit_at-zero j))),
)

module _ (a b : List Bool) (v : Bool) (s n : ℕ) where
  pub where_more : (m : ℕ) → HasWhere a b v s n → HasWhere a b v n m → HasWhere a b v s m
  where_more m before after i from l = ⊎_elim (λ (less : i < n). before i from less) (λ (past : n ≤ i). after i past l) (cases_lt i n)

  -- of numbers of w bits from s on, which end at n
  pub where_digits : (w x y : ℕ) → s + w ≡ n → w ≤ 64 → x < 2 ^ w → ((j : ℕ) → j < w → digit x j ≡ item a (s + j))
      → ((j : ℕ) → j < w → digit y j ≡ item b (s + j)) → ((j : ℕ) → j < 64 → digit x j ≡ true → digit y j ≡ v) ↔ HasWhere a b v s n
  where_digits w x y end within fits of_a of_b = (
    λ all i from l is.
        let e : s + (i - s) ≡ i = omega arith in
        let inside : i - s < w = omega arith in
        ap (item b) (sym e) ∙ sym (of_b (i - s) inside) ∙ all (i - s) (omega arith) (of_a (i - s) inside ∙ ap (item a) e ∙ is),
    λ all j l is. ⊎_elim
        (λ (inside : j < w). of_b j inside ∙ all (s + j) (omega arith) (omega arith) (sym (of_a j inside) ∙ is))
        (λ (past : w ≤ j).
        let none : digit x j ≡ false = ap (λ d. eqb d 1) (bit_at_above x w j fits past) in
        cc)
        (cases_lt j w),
  )

-- the digits of a number of some bits
pub number_digit : (b : List Bool) (s n j : ℕ) → j < n → digit (number_at b s n) j ≡ item b (s + j)
number_digit b s n j l = ap (λ d. eqb d 1) (bit_at-number_at b s n j l) ∙ of_truth (item b (s + j))
  where
    of_truth : (x : Bool) → eqb (truth x) 1 ≡ x
    of_truth true = refl
    of_truth false = refl
