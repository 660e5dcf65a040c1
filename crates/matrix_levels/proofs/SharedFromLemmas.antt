-- The numbers from a bound on that two lists share: the next one, and where none is left.
use Rattle.std.proofs.Common.{◌≡◌, ℕ, ◌+◌, ◌<◌, ◌≤◌, nat_lt, nat_le, ◌&&◌, false, List, [], ◌∷◌, length, get_or, All, Contains, filter, sym, ap, ◌∙◌, arith, ⊎_elim, zero-add}
use Rattle.std.proofs.lemmas.Bool.{lt-ltb, le-ltb, le-leb, lt-leb, cases_lt, and_from, and_left, and_right}
use Rattle.std.proofs.lemmas.List.Elements.{All-contains}
use Rattle.std.proofs.lemmas.List.FromFn.{length-range_with_len, get_or-range_with_len}
use Rattle.std.proofs.lemmas.List.Sums.{count_by-le-length}
use Rattle.std.specs.List.{range_with_len}
use Rattle.matrix_levels.specs.Numbers.{count_equal, count_less}
use Rattle.matrix_levels.specs.SharedFrom.{is_shared_from, shared_from}
use Rattle.matrix_levels.proofs.DistinctLemmas.{count-step, counted, filter-first, filter-none, filter-same}
use Rattle.matrix_levels.proofs.lemmas.OrderLemmas.{count_less-grows}
use Rattle.matrix_levels.proofs.lemmas.RangeLemmas.{contained}

-- v is not in the list
abbrev Misses : List ℕ → ℕ → Type 0
Misses xs v = count_equal xs v ≡ 0

-- between a bound and the next item none is in the list
pub misses-below : (xs : List ℕ) (bound x v : ℕ) → All (λ y. bound ≤ y → x ≤ y) xs → bound ≤ v → v < x → Misses xs v
misses-below xs bound x v next from below =
    ⊎_elim
    (λ there. let P : ℕ → Type 0 = λ y. bound ≤ y → x ≤ y in absurd (omega (arith, below, All-contains P xs v next (contained v xs there) from)))
    (λ none. omega (arith, none))
    (cases_lt 0 (count_equal xs v))

-- past all items none is in the list
pub misses-after : (xs : List ℕ) (bound v : ℕ) → All (λ y. y < bound) xs → bound ≤ v → Misses xs v
misses-after xs bound v all from =
    ⊎_elim
    (λ there. let P : ℕ → Type 0 = λ y. y < bound in absurd (omega (arith, from, All-contains P xs v all (contained v xs there))))
    (λ none. omega (arith, none))
    (cases_lt 0 (count_equal xs v))

-- where all items are less than a bound, by their number
pub misses-all : (xs : List ℕ) (bound v : ℕ) → length xs ≤ count_less xs bound → bound ≤ v → Misses xs v
misses-all xs bound v all from =
    omega (arith, all, count-step xs v, count_less-grows xs bound v from, count_by-le-length (λ y. nat_lt y (v + 1)) xs)

-- an item that is at least a bound, and less than the next bound, is one more that is less
pub less-grows : (xs : List ℕ) (bound x next : ℕ) → Contains xs x → bound ≤ x → x < next → count_less xs bound + 1 ≤ count_less xs next
less-grows xs bound x next there from below =
    omega (
      arith,
      counted xs x there,
      count-step xs x,
      count_less-grows xs bound x from,
      count_less-grows xs (x + 1) next (omega (arith, below)),
    )

module _ (xs ys : List ℕ) (n : ℕ) where
  -- v is not in both
  abbrev NotShared : ℕ → Type 0
  NotShared v = (nat_lt 0 (count_equal xs v) && nat_lt 0 (count_equal ys v)) ≡ false

  pub not-first : (v : ℕ) → Misses xs v → NotShared v
  not-first v none = and_left (nat_lt 0 (count_equal xs v)) (nat_lt 0 (count_equal ys v)) (le-ltb 0 (count_equal xs v) (omega (arith, none)))

  pub not-second : (v : ℕ) → Misses ys v → NotShared v
  not-second v none = and_right (nat_lt 0 (count_equal xs v)) (nat_lt 0 (count_equal ys v)) (le-ltb 0 (count_equal ys v) (omega (arith, none)))

  not-shared : (from v : ℕ) → NotShared v → is_shared_from xs ys from v ≡ false
  not-shared from v apart = and_left (nat_lt 0 (count_equal xs v) && nat_lt 0 (count_equal ys v)) (nat_le from v) apart

  below : (from v : ℕ) → v < from → is_shared_from xs ys from v ≡ false
  below from v l = and_right (nat_lt 0 (count_equal xs v) && nat_lt 0 (count_equal ys v)) (nat_le from v) (lt-leb from v l)

  item : (j : ℕ) → j < n → get_or (range_with_len 0 n) j 0 ≡ j
  item j h = get_or-range_with_len 0 n j 0 h ∙ zero-add j

  -- none is left
  pub shared-none : (from : ℕ) → ((v : ℕ) → from ≤ v → NotShared v) → shared_from xs ys n from ≡ []
  unfolding shared_from
  shared-none from none =
      filter-none (is_shared_from xs ys from) (range_with_len 0 n)
      (λ k h. ⊎_elim (below from (get_or (range_with_len 0 n) k 0)) (λ g. not-shared from (get_or (range_with_len 0 n) k 0) (none (get_or (range_with_len 0 n) k 0) g))
      (cases_lt (get_or (range_with_len 0 n) k 0) from))

  -- none is passed
  pub shared-skip : (from to : ℕ) → from ≤ to → ((v : ℕ) → from ≤ v → v < to → NotShared v) → shared_from xs ys n from ≡ shared_from xs ys n to
  unfolding shared_from
  shared-skip from to order none =
      filter-same (is_shared_from xs ys from) (is_shared_from xs ys to) (range_with_len 0 n) (λ k h. same (get_or (range_with_len 0 n) k 0))
    where
      same : (v : ℕ) → is_shared_from xs ys from v ≡ is_shared_from xs ys to v
      same v =
          ⊎_elim
          (λ l. below from v l ∙ sym (below to v (omega (arith, l, order))))
          (λ g. ⊎_elim
          (λ m. not-shared from v (none v g m) ∙ sym (below to v m))
          (λ h. ap (λ b. (nat_lt 0 (count_equal xs v) && nat_lt 0 (count_equal ys v)) && b) (le-leb from v g ∙ sym (le-leb to v h)))
          (cases_lt v to))
          (cases_lt v from)

  -- x is the next one
  pub shared-first : (from x : ℕ) → from ≤ x → x < n → Contains xs x → Contains ys x → ((v : ℕ) → from ≤ v → v < x → NotShared v)
      → shared_from xs ys n from ≡ x ∷ shared_from xs ys n (x + 1)
  unfolding shared_from
  shared-first from x order inside one two none =
      filter-first (is_shared_from xs ys from) (is_shared_from xs ys (x + 1)) (range_with_len 0 n) x
      (omega (arith, length-range_with_len 0 n, inside))
      (ap (is_shared_from xs ys from) (item x inside)
      ∙ and_from (nat_lt 0 (count_equal xs x) && nat_lt 0 (count_equal ys x)) (nat_le from x)
      (and_from (nat_lt 0 (count_equal xs x)) (nat_lt 0 (count_equal ys x)) (lt-ltb 0 (count_equal xs x) (counted xs x one))
      (lt-ltb 0 (count_equal ys x) (counted ys x two)))
      (le-leb from x order))
      (λ j h. ap (is_shared_from xs ys from) (item j (omega (arith, h, inside)))
      ∙ ⊎_elim (below from j) (λ g. not-shared from j (none j g h)) (cases_lt j from))
      (λ j h. ap (is_shared_from xs ys (x + 1)) (item j (omega (arith, h, inside))) ∙ below (x + 1) j (omega (arith, h)))
      (λ j h i. later (get_or (range_with_len 0 n) j 0) (omega (arith, item j (omega (arith, i, length-range_with_len 0 n)), h)))
      ∙ ap (λ y. y ∷ filter (is_shared_from xs ys (x + 1)) (range_with_len 0 n)) (item x inside)
    where
      later : (v : ℕ) → x < v → is_shared_from xs ys (x + 1) v ≡ is_shared_from xs ys from v
      later v h =
          ap (λ b. (nat_lt 0 (count_equal xs v) && nat_lt 0 (count_equal ys v)) && b)
          (le-leb (x + 1) v (omega (arith, h)) ∙ sym (le-leb from v (omega (arith, h, order))))
