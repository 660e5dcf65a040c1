-- Numbers below n of n keys, none of which two keys have, are each one key's.
use Rattle.std.proofs.Common.{◌≡◌, ℕ, zero, suc, ◌+◌, ◌-◌, ◌<◌, ◌≤◌, Bool, true, false, List, [], ◌∷◌, length, refl, ap, ⊎_elim, arith, ltb, Option, Some, None}
use Rattle.std.specs.List.{count_by, slice_get}
use Rattle.std.proofs.lemmas.Bool.{cases_lt, le-ltb}
use Rattle.perfect_hash.specs.Perfect.{is_number}
use Rattle.perfect_hash.proofs.lemmas.CountingLemmas.{one_if, below_more, count_by-cons, count_by-either, count_by-none, some_position}

-- no two items pass
abbrev pub AloneAt : (ℕ → Bool) → List ℕ → Type 0
AloneAt p xs = (i j x y : ℕ) → slice_get xs i ≡ Some x → slice_get xs j ≡ Some y → p x ≡ true → p y ≡ true → i ≡ j

one_first : (p : ℕ → Bool) (x : ℕ) (xs : List ℕ) (b : Bool) → p x ≡ b → AloneAt p (x ∷ xs) → count_by p xs ≤ 1 → count_by p (x ∷ xs) ≤ 1
one_first p x xs true e alone rest =
    ⊎_elim
    (λ none. omega (arith, none, count_by-cons p x xs, ap one_if e))
    (λ some.
    let found = some_position p xs some in
    let no : 0 ≡ suc found.0 = alone 0 (suc found.0) x found.1 refl found.2 e found.3 in
    absurd (omega (arith, no)))
    (cases_lt (count_by p xs) 1)
one_first p x xs false e alone rest = omega (arith, rest, count_by-cons p x xs, ap one_if e)

-- so at most one is counted
pub at_most_one : (p : ℕ → Bool) (xs : List ℕ) → AloneAt p xs → count_by p xs ≤ 1
at_most_one p [] alone = omega arith
at_most_one p (x ∷ xs) alone =
    one_first p x xs (p x) refl alone
    (at_most_one p xs (λ i j y z at_i at_j pass_y pass_z. omega (arith, alone (suc i) (suc j) y z at_i at_j pass_y pass_z)))

-- each item passes
pub count_all : (p : ℕ → Bool) (xs : List ℕ) → ((i x : ℕ) → slice_get xs i ≡ Some x → p x ≡ true) → count_by p xs ≡ length xs
count_all p [] each = refl
count_all p (x ∷ xs) each =
    omega (arith, count_by-cons p x xs, ap one_if (each 0 x refl), count_all p xs (λ i y at. each (suc i) y at))

-- whether a number below n is given
abbrev pub is_less : ℕ → Option ℕ → Bool
is_less n None = false
is_less n (Some v) = ltb v n

module _ (number : ℕ → Option ℕ) (keys : List ℕ) where
  -- how many keys have a number below m, and how many have number v
  abbrev pub less : ℕ → ℕ
  less m = count_by (λ k. is_less m (number k)) keys

  abbrev pub at : ℕ → ℕ
  at v = count_by (λ k. is_number v (number k)) keys

  pub less-more : (m : ℕ) → less (suc m) ≡ less m + at m
  less-more m = count_by-either (λ k. is_less (suc m) (number k)) (λ k. is_less m (number k)) (λ k. is_number m (number k)) (λ k. step (number k)) keys
    where
      step : (o : Option ℕ) → one_if (is_less (suc m) o) ≡ one_if (is_less m o) + one_if (is_number m o)
      step None = refl
      step (Some v) = below_more true v m (suc m) refl

  pub less-zero : less 0 ≡ 0
  less-zero = count_by-none (λ k. is_less 0 (number k)) (λ k. none (number k)) keys
    where
      none : (o : Option ℕ) → is_less 0 o ≡ false
      none None = refl
      none (Some v) = le-ltb v 0 (omega arith)

  less-few : ((v : ℕ) → at v ≤ 1) → (m : ℕ) → less m ≤ m
  less-few few zero = omega (arith, less-zero)
  less-few few (suc m) = omega (arith, less-more m, few m, less-few few m)

  less-later : ((v : ℕ) → at v ≤ 1) → (m k : ℕ) → less (k + m) ≤ less m + k
  less-later few m zero =
      let e : 0 + m ≡ m = omega arith in
      omega (arith, ap less e)
  less-later few m (suc k) =
      let e : suc k + m ≡ suc (k + m) = omega arith in
      omega (arith, ap less e, less-more (k + m), few (k + m), less-later few m k)

  pub each_once : ((v : ℕ) → at v ≤ 1) → (n : ℕ) → less n ≡ n → (v : ℕ) → v < n → at v ≡ 1
  each_once few n all v inside =
      let e : (n - suc v) + suc v ≡ n = omega arith in
      omega (arith, few v, less-later few (suc v) (n - suc v), ap less e, all, less-more v, less-few few v, inside)
