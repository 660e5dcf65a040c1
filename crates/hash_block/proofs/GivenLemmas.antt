-- Strings that are given, and the order of their numbers.
use Rattle.std.proofs.Common.{◌≡◌, ◌≢◌, ℕ, zero, suc, ◌+◌, ◌-◌, ◌<◌, ◌≤◌, List, ◌∷◌, length, get_or, set, get_or-set_same, get_or-set_other, slice_index, Option, Some, IsSome, refl, sym, ap, ◌∙◌, subst, ⊎_elim, arith}
use Rattle.std.proofs.lemmas.Bool.{cases_lt}
use Rattle.hash_block.specs.Given.{len_of, piece_of, total_of, AreNumbersApart, AreStringsPlaced}

-- an item after the first
pub after_first : (xs : List ℕ) (x i : ℕ) → 0 < i → get_or (x ∷ xs) i 0 ≡ get_or xs (i - 1) 0
after_first xs x zero some = absurd (omega (arith, some))
after_first xs x (suc i) some = let e : i ≡ suc i - 1 = omega arith in ap (λ k. get_or xs k 0) e

-- ---- which string stands at a number

one_more : (i j : ℕ) → i + 1 ≡ j + 1 → i ≡ j
one_more i j e = omega (arith, e)

-- no string is placed in no order
pub none_placed : (number : ℕ → Option ℕ) (n : ℕ) (order : List ℕ) → ((v : ℕ) → slice_index order v ≡ 0) → AreStringsPlaced number n 0 order
none_placed number n order clear = record {
  each = λ i less. absurd (omega (arith, less));
  back = λ v less some. absurd (some (clear v));
}

module _ (number : ℕ → Option ℕ) (n k : ℕ) (order : List ℕ) (placed : AreStringsPlaced number n k order) where
  -- one more is placed
  pub placed_more : (v : ℕ) → n ≤ length order → number k ≡ Some v → v < n → slice_index order v ≡ 0
      → AreStringsPlaced number n (k + 1) (set order v (k + 1))
  placed_more v long is inside free = record {
    each = λ i less.
        ⊎_elim
        (λ before.
        let h = placed.each i before in
        let other : h.0 ≢ v = λ e. omega (arith, free, h.3, ap (slice_index order) e) in
        (h.0, h.1, h.2, get_or-set_other order v h.0 (k + 1) 0 other ∙ h.3))
        (λ on.
        let e : i ≡ k = omega (arith, on, less) in
        (v, ap number e ∙ is, inside, get_or-set_same order v (k + 1) 0 (omega (arith, inside, long)) ∙ ap (λ j. j + 1) (sym e)))
        (cases_lt i k);
    back = λ w less some.
        ⊎_elim
        (λ before. beside w less some (λ e. omega (arith, e, before)))
        (λ on.
        ⊎_elim
        (λ after. beside w less some (λ e. omega (arith, e, after)))
        (λ rest.
        let e : w ≡ v = omega (arith, on, rest) in (
          k,
          omega arith,
          is ∙ ap Some (sym e),
          ap (slice_index (set order v (k + 1))) e ∙ get_or-set_same order v (k + 1) 0 (omega (arith, inside, long)),
        ))
        (cases_lt v w))
        (cases_lt w v);
  }
    where
      beside : (w : ℕ) → w < n → slice_index (set order v (k + 1)) w ≢ 0 → w ≢ v
          → (i : ℕ) × (i < k + 1) × (number i ≡ Some w) × (slice_index (set order v (k + 1)) w ≡ i + 1)
      beside w less some other =
          let same = get_or-set_other order v w (k + 1) 0 other in
          let h = placed.back w less (λ e. some (same ∙ e)) in
          (h.0, omega (arith, h.1), h.2, same ∙ h.3)

  -- where another string stands at its number, two have the same
  pub not_apart : (m v : ℕ) → k < m → AreNumbersApart number m → number k ≡ Some v → v < n → slice_index order v ≢ 0 → ⊥
  not_apart m v less apart is inside taken =
      let h = placed.back v inside taken in
      omega (arith, h.1, apart.apart h.0 k v (omega (arith, h.1, less)) less h.2 is)

  -- those that are placed are apart
  pub apart_placed : AreNumbersApart number k
  apart_placed = record {
    some = λ i less. let h = placed.each i less in subst (λ (o : Option ℕ). IsSome o) (sym h.1) refl;
    apart = λ i j v less_i less_j is_i is_j.
        let p = placed.each i less_i in
        let q = placed.each j less_j in
        one_more i j (sym p.3 ∙ ap (slice_index order) (value p.0 v (sym p.1 ∙ is_i) ∙ sym (value q.0 v (sym q.1 ∙ is_j))) ∙ q.3);
  }
    where
      value : (v w : ℕ) → Some v ≡ Some w → v ≡ w
      value v w same = cc

-- ---- how many bytes strings have together

-- the pieces of an order whose item v, which was 0, is now another
set_total : (ends order : List ℕ) (v x n : ℕ) → slice_index order v ≡ 0 → v < length order → n ≤ v → total_of ends (set order v x) n ≡ total_of ends order n
unfolding total_of
set_total ends order v x zero free inside order_is = refl
set_total ends order v x (suc n) free inside order_is =
    let item = get_or-set_other order v n x 0 (λ e. omega (arith, e, order_is)) in
    ap (λ t. t + piece_of ends (slice_index (set order v x) n)) (set_total ends order v x n free inside (omega (arith, order_is)))
    ∙ ap (λ i. total_of ends order n + piece_of ends i) item

pub total_more : (ends order : List ℕ) (v x n : ℕ) → slice_index order v ≡ 0 → v < length order → v < n
    → total_of ends (set order v x) n ≡ total_of ends order n + piece_of ends x
unfolding total_of
total_more ends order v x zero free inside less = absurd (omega (arith, less))
total_more ends order v x (suc n) free inside less =
    ⊎_elim
    (λ before.
    let item = get_or-set_other order v n x 0 (λ e. omega (arith, e, before)) in
    let more = total_more ends order v x n free inside before in
    let piece = ap (piece_of ends) item in
    omega (arith, more, piece))
    (λ on.
    let e : n ≡ v = omega (arith, on, less) in
    let rest = set_total ends order v x n free inside (omega (arith, e)) in
    let piece = ap (λ j. piece_of ends (slice_index (set order v x) j)) e ∙ ap (piece_of ends) (get_or-set_same order v x 0 inside) in
    let none = ap (λ j. piece_of ends (slice_index order j)) e ∙ ap (piece_of ends) free in
    omega (arith, rest, piece, none))
    (cases_lt v n)

-- of no order there are none
pub total_none : (ends order : List ℕ) (n : ℕ) → ((v : ℕ) → slice_index order v ≡ 0) → total_of ends order n ≡ 0
unfolding total_of
total_none ends order zero clear = refl
total_none ends order (suc n) clear =
    let rest = total_none ends order n clear in
    let piece = ap (piece_of ends) (clear n) in
    omega (arith, rest, piece)

-- of more numbers there are more
pub total_grows : (ends order : List ℕ) (v n : ℕ) → v ≤ n → total_of ends order v ≤ total_of ends order n
unfolding total_of
total_grows ends order v zero order_is = let e : v ≡ 0 = omega (arith, order_is) in let s = ap (total_of ends order) e in omega (arith, s)
total_grows ends order v (suc n) order_is =
    ⊎_elim
    (λ before. omega (arith, total_grows ends order v n (omega (arith, before))))
    (λ on. let e : v ≡ suc n = omega (arith, on, order_is) in let s = ap (total_of ends order) e in omega (arith, s))
    (cases_lt v (suc n))

pub total_next : (ends order : List ℕ) (v i : ℕ) → slice_index order v ≡ i + 1 → total_of ends order (v + 1) ≡ total_of ends order v + len_of ends i
unfolding total_of
total_next ends order v i is =
    let e : v + 1 ≡ suc v = omega arith in
    let item : i + 1 ≡ suc i = omega arith in
    ap (total_of ends order) e ∙ ap (λ x. total_of ends order v + piece_of ends x) (is ∙ item)
