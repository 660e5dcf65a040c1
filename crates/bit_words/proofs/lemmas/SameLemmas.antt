-- Ranges with the same bits are the same numbers.
use Rattle.std.proofs.Common.{◌≡◌, ℕ, ◌+◌, ◌-◌, ◌≤◌, ◌↔◌, IsTrue, nat_eq, Bool, true, false, List, length, sym, ap, ◌∙◌, refl, inl, inr, arith}
use Rattle.std.proofs.lemmas.Bool.{cases_lt, eq-eqb, eqb-true}
use Rattle.std.proofs.lemmas.Nat.Bits.{same_from_bits_below}
use Rattle.std.specs.Int.{bit_at}
use Rattle.bit_lists.proofs.lemmas.NumberLemmas.{bit_at-number_at, number_at-lt}
use Rattle.bit_lists.proofs.lemmas.WordLemmas.{truth}
use Rattle.bit_lists.specs.Bits.{item}
use Rattle.bit_lists.specs.Number.{number_at}
use Rattle.bit_words.specs.Copied.{AreSame}

truth-injective : (x y : Bool) → truth x ≡ truth y → x ≡ y
truth-injective true true e = refl
truth-injective true false e = cc
truth-injective false true e = cc
truth-injective false false e = refl

pub same_bits_of_numbers : (a b : List Bool) (s t n : ℕ) → number_at a s n ≡ number_at b t n → AreSame a s b t n
same_bits_of_numbers a b s t n same i l =
    truth-injective (item a (s + i)) (item b (t + i))
    (sym (bit_at-number_at a s n i l) ∙ ap (λ x. bit_at x i) same ∙ bit_at-number_at b t n i l)

pub same_numbers : (a b : List Bool) (s t n : ℕ) → s + n ≤ length a → t + n ≤ length b → AreSame a s b t n
    → number_at a s n ≡ number_at b t n
same_numbers a b s t n in_a in_b same =
    same_from_bits_below n (number_at a s n) (number_at b t n) (number_at-lt a s n in_a) (number_at-lt b t n in_b)
    (λ k l. bit_at-number_at a s n k l ∙ ap truth (same k l) ∙ sym (bit_at-number_at b t n k l))

-- bits that are the same, and others after them
pub same_more : (a b : List Bool) (s t n s' t' w : ℕ) → s' ≡ s + n → t' ≡ t + n → AreSame a s b t n → AreSame a s' b t' w
    → AreSame a s b t (n + w)
same_more a b s t n s' t' w es et first next i l =
    elim (cases_lt i n) [
      | inl less ↦ first i less
      | inr from ↦
          let ea : s + i ≡ s' + (i - n) = omega arith in
          let eb : t + i ≡ t' + (i - n) = omega arith in
          ap (item a) ea ∙ next (i - n) (omega arith) ∙ sym (ap (item b) eb)
    ]

pub same_fewer : (a b : List Bool) (s t n s' t' k w : ℕ) → s' ≡ s + k → t' ≡ t + k → k + w ≤ n → AreSame a s b t n → AreSame a s' b t' w
same_fewer a b s t n s' t' k w es et few all i l =
    let ea : s' + i ≡ s + (k + i) = omega arith in
    let eb : t' + i ≡ t + (k + i) = omega arith in
    ap (item a) ea ∙ all (k + i) (omega arith) ∙ sym (ap (item b) eb)

-- a test of two numbers of one width shows whether their bits are the same
pub decided_same : (a b : List Bool) (s t n x y : ℕ) → s + n ≤ length a → t + n ≤ length b → x ≡ number_at a s n → y ≡ number_at b t n
    → IsTrue (nat_eq x y) ↔ AreSame a s b t n
decided_same a b s t n x y in_a in_b is_a is_b = (
  λ same. same_bits_of_numbers a b s t n (sym is_a ∙ eqb-true x y same ∙ is_b),
  λ same. eq-eqb x y (is_a ∙ same_numbers a b s t n in_a in_b same ∙ sym is_b),
)
