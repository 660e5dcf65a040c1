-- Numbers that are each one key's are a minimal perfect numbering.
use Rattle.std.proofs.Common.{◌≡◌, ℕ, zero, suc, ◌+◌, ◌<◌, Bool, true, false, List, length, get_or, Option, Some, None, refl, sym, ap, ◌∙◌, arith, ltb}
use Rattle.std.proofs.lemmas.Bool.{eqb-true, eq-eqb, ltb-true, le-ltb}
use Rattle.std.proofs.lemmas.Option.{slice_get-get_or}
use Rattle.std.specs.List.{count_by, slice_get}
use Rattle.std.specs.Option.{IfSome, IsSome}
use Rattle.perfect_hash.specs.Perfect.{is_number, IsMinimalPerfect}
use Rattle.perfect_hash.proofs.lemmas.CountingLemmas.{one_if, count_by-either, count_by-none, below_more, passes_all, one_position, some_position}

-- whether a number below n is given
abbrev is_below : ℕ → Option ℕ → Bool
is_below n None = false
is_below n (Some v) = ltb v n

is_number-is : (v : ℕ) (o : Option ℕ) → is_number v o ≡ true → o ≡ Some v
is_number-is v None h = cc
is_number-is v (Some w) h = ap Some (eqb-true w v h)

module _ {K : Type 0} (number : K → Option ℕ) (keys : List K) where
  first_numbers : (m : ℕ) → ((v : ℕ) → v < m → count_by (λ k. is_number v (number k)) keys ≡ 1)
      → count_by (λ k. is_below m (number k)) keys ≡ m
  first_numbers zero once = count_by-none (λ k. is_below 0 (number k)) (λ k. none (number k)) keys
    where
      none : (o : Option ℕ) → is_below 0 o ≡ false
      none None = refl
      none (Some v) = le-ltb v 0 (omega arith)
  first_numbers (suc m) once =
      omega (
        arith,
        count_by-either (λ k. is_below (suc m) (number k)) (λ k. is_below m (number k)) (λ k. is_number m (number k)) (λ k. step (number k)) keys,
        first_numbers m (λ v less. once v (omega arith)),
        once m (omega arith),
      )
    where
      step : (o : Option ℕ) → one_if (is_below (suc m) o) ≡ one_if (is_below m o) + one_if (is_number m o)
      step None = refl
      step (Some v) = below_more true v m (suc m) refl

  pub minimal_perfect : ((k : K) → IfSome (number k) (λ v. v < length keys)) → ((v : ℕ) → v < length keys → count_by (λ k. is_number v (number k)) keys ≡ 1) → IsMinimalPerfect number keys
  minimal_perfect bounded once = record {
    below = bounded;
    some = λ i d inside. given (number (get_or keys i d)) (all i (get_or keys i d) (slice_get-get_or keys i d inside));
    apart = λ i j k l at_i at_j same. by_number i j k l at_i at_j same (number k) refl;
    onto = λ v less.
        let found = some_position (λ k. is_number v (number k)) keys (omega (arith, once v less)) in
        (found.0, found.1, found.2, is_number-is v (number found.1) found.3);
  }
    where
      all : (i : ℕ) (k : K) → slice_get keys i ≡ Some k → is_below (length keys) (number k) ≡ true
      all i k here = passes_all (λ x. is_below (length keys) (number x)) keys i k (first_numbers (length keys) once) here

      given : (o : Option ℕ) → is_below (length keys) o ≡ true → IsSome o
      given None h = cc
      given (Some v) h = refl

      by_number : (i j : ℕ) (k l : K) → slice_get keys i ≡ Some k → slice_get keys j ≡ Some l → number k ≡ number l
          → (o : Option ℕ) → number k ≡ o → i ≡ j
      by_number i j k l at_i at_j same None is = absurd (no (ap (is_below (length keys)) (sym is) ∙ all i k at_i))
        where
          no : false ≡ true → ⊥
          no h = cc
      by_number i j k l at_i at_j same (Some v) is =
          let less : v < length keys = ltb-true v (length keys) (ap (is_below (length keys)) (sym is) ∙ all i k at_i) in
          let yes_k : is_number v (number k) ≡ true = ap (is_number v) is ∙ eq-eqb v v refl in
          let yes_l : is_number v (number l) ≡ true = ap (is_number v) (sym same) ∙ yes_k in
          one_position (λ x. is_number v (number x)) keys i j k l (once v less) at_i yes_k at_j yes_l
