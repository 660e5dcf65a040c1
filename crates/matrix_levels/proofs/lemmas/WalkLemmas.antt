-- Where numbers stand after some levels, and what stands between two positions.
use Rattle.std.proofs.Common.{◌≡◌, ℕ, zero, suc, ◌+◌, ◌-◌, ◌/◌, ◌^◌, ◌<◌, ◌≤◌, ◌==◌, Bool, List, length, take, get_or, count_by, filter, slice_range, All, refl, sym, ap, ◌∙◌, subst, arith, add-one, zero-add, ⊎_elim}
use Rattle.std.proofs.lemmas.Bool.{cases_lt, eqb-true, eq-eqb, ne_eqb}
use Rattle.std.proofs.lemmas.List.Elements.{filter_passes}
use Rattle.std.proofs.lemmas.List.Sums.{length-filter}
use Rattle.std.proofs.lemmas.Nat.{shr_le}
use Rattle.std.proofs.Math.Nat.{pow-le-pow_right}
use Rattle.bit_lists.specs.Bits.{digit}
use Rattle.matrix_levels.specs.Levels.{level, level_position, partition_position}
use Rattle.matrix_levels.specs.Numbers.{occurrences_before, PicksItem}
use Rattle.matrix_levels.proofs.lemmas.BackLemmas.{has-own}
use Rattle.matrix_levels.proofs.lemmas.ColumnLemmas.{length-level}
use Rattle.matrix_levels.proofs.lemmas.CountLemmas.{count-none, count-all, get_or-range, length-range}
use Rattle.matrix_levels.proofs.lemmas.FilterLemmas.{count-range, count-take-le}
use Rattle.matrix_levels.proofs.lemmas.PartLemmas.{count-moved, item-moved, moved-inside, moved-le}
use Rattle.matrix_levels.proofs.lemmas.PrefixLemmas.{with_digit, IsPrefixRange, IsPrefixRange-first, IsPrefixRange-last, IsPrefixRange-next, prefix-all, prefix-more, begins-nothing}

-- its digits and one more fit
pub prefix-fits : (x w d : ℕ) → d < w → w ≤ 64 → x < 2 ^ w → with_digit (x / 2 ^ (w - d)) (digit x (w - 1 - d)) < 2 ^ 64
prefix-fits x w d less most fit =
    omega (arith, prefix-more x w d less, shr_le x (w - (d + 1)), pow-le-pow_right {n = 2} (omega arith) most)

-- no digits yet
pub digits-first : (x w : ℕ) → x < 2 ^ w → 0 ≡ x / 2 ^ (w - 0)
digits-first x w fit = let all : w - 0 ≡ w = omega arith in sym (ap (λ k. x / 2 ^ k) all ∙ begins-nothing x w fit)

-- what begins as a number does, one digit more
IsPrefixRange-number : (xs : List ℕ) (w d x : ℕ) (ys : List ℕ) (f l : ℕ) → d < w → IsPrefixRange xs w d (x / 2 ^ (w - d)) ys f l
    → IsPrefixRange xs w (d + 1) (x / 2 ^ (w - (d + 1))) ys (partition_position (w - 1 - d) (digit x (w - 1 - d)) (level xs w d) f)
    (partition_position (w - 1 - d) (digit x (w - 1 - d)) (level xs w d) l)
IsPrefixRange-number xs w d x ys f l less n =
    let v = digit x (w - 1 - d) in
    let P : ℕ → Type 0 = λ h. IsPrefixRange xs w (d + 1) h ys (partition_position (w - 1 - d) v (level xs w d) f) (partition_position (w - 1 - d) v (level xs w d) l) in
    subst P (prefix-more x w d less) (IsPrefixRange-next xs w d (x / 2 ^ (w - d)) ys f l v less n)

-- ---- the position after some levels

pub level_position-first : (xs : List ℕ) (w x p : ℕ) → p ≡ level_position xs w x 0 p
unfolding level_position
level_position-first xs w x p = refl

pub level_position-more : (xs : List ℕ) (w x d p : ℕ)
    → level_position xs w x (d + 1) p ≡ partition_position (w - 1 - d) (digit x (w - 1 - d)) (level xs w d) (level_position xs w x d p)
unfolding level_position
level_position-more xs w x d p = ap (λ k. level_position xs w x k p) (add-one d)

pub level_position-inside : (xs : List ℕ) (w x d p : ℕ) → p ≤ length xs → level_position xs w x d p ≤ length xs
unfolding level_position
level_position-inside xs w x zero p h = h
level_position-inside xs w x (suc d) p h =
    omega (arith, moved-le (w - 1 - d) (digit x (w - 1 - d)) (level xs w d) (level_position xs w x d p), length-level xs w d)

-- one level on, by a level and a digit that are these
pub step-position : (xs : List ℕ) (w x d p q next : ℕ) (v : Bool) (ys : List ℕ) → ys ≡ level xs w d → v ≡ digit x (w - 1 - d) → q ≡ level_position xs w x d p
    → next ≡ partition_position (w - 1 - d) v ys q → next ≡ level_position xs w x (d + 1) p
step-position xs w x d p q next v ys same dig at moves =
    moves
    ∙ ap (λ m. partition_position (w - 1 - d) v m q) same
    ∙ ap (λ u. partition_position (w - 1 - d) u (level xs w d) q) dig
    ∙ ap (λ k. partition_position (w - 1 - d) (digit x (w - 1 - d)) (level xs w d) k) at
    ∙ sym (level_position-more xs w x d p)

-- the same by a level that is this one
pub position-same : (b : ℕ) (v : Bool) (xs ys : List ℕ) (q next : ℕ) → ys ≡ xs → next ≡ partition_position b v ys q → next ≡ partition_position b v xs q
position-same b v xs ys q next same moves = moves ∙ ap (λ m. partition_position b v m q) same

-- an item stands there
pub level_position-item : (xs : List ℕ) (w x d p : ℕ) → p < length xs → get_or xs p 0 ≡ x
    → (level_position xs w x d p < length xs) × (get_or (level xs w d) (level_position xs w x d p) 0 ≡ x)
unfolding level_position level
level_position-item xs w x zero p inside is = (inside, is)
level_position-item xs w x (suc d) p inside is =
    let before = level_position-item xs w x d p inside is in
    let within : level_position xs w x d p < length (level xs w d) = omega (arith, before.0, length-level xs w d) in
    let dig : digit (get_or (level xs w d) (level_position xs w x d p) 0) (w - 1 - d) ≡ digit x (w - 1 - d) = ap (λ y. digit y (w - 1 - d)) before.1 in (
      omega (arith, length-level xs w d, moved-inside (w - 1 - d) (digit x (w - 1 - d)) (level xs w d) (level_position xs w x d p) within dig),
      item-moved (w - 1 - d) (digit x (w - 1 - d)) (level xs w d) (level_position xs w x d p) within dig ∙ before.1,
    )

-- as many of the number stand before it
level_position-count : (xs : List ℕ) (w x d p : ℕ) → occurrences_before (level xs w d) x (level_position xs w x d p) ≡ occurrences_before xs x p
unfolding level_position level
level_position-count xs w x zero p = refl
level_position-count xs w x (suc d) p =
    count-moved (w - 1 - d) (digit x (w - 1 - d)) (level xs w d) x (level_position xs w x d p) (has-own (w - 1 - d) _ x refl)
    ∙ level_position-count xs w x d p

-- what of a range begins as the number does stands between the positions of its ends
pub level_position-range : (xs : List ℕ) (w x s e : ℕ) → All (λ y. y < 2 ^ w) xs → x < 2 ^ w → s ≤ e → e ≤ length xs → (d : ℕ) → d ≤ w
    → IsPrefixRange xs w d (x / 2 ^ (w - d)) (slice_range xs s e) (level_position xs w x d s) (level_position xs w x d e)
unfolding level_position
level_position-range xs w x s e all fit order inside zero most =
    let P : ℕ → Type 0 = λ h. IsPrefixRange xs w 0 h (slice_range xs s e) s e in
    subst P (digits-first x w fit) (IsPrefixRange-first xs w s e all order inside)
level_position-range xs w x s e all fit order inside (suc d) most =
    let less : d < w = omega arith in
    let v = digit x (w - 1 - d) in
    let P : ℕ → Type 0 = λ k. IsPrefixRange xs w k (x / 2 ^ (w - k)) (slice_range xs s e)
    (partition_position (w - 1 - d) v (level xs w d) (level_position xs w x d s)) (partition_position (w - 1 - d) v (level xs w d) (level_position xs w x d e)) in
    subst P (add-one d)
    (IsPrefixRange-number xs w d x (slice_range xs s e) _ _ less (level_position-range xs w x s e all fit order inside d (omega arith)))

-- ---- the last level

module _ (xs : List ℕ) (w x : ℕ) (all : All (λ y. y < 2 ^ w) xs) (fit : x < 2 ^ w) where
  -- the number's items of a range stand side by side
  module _ (s e : ℕ) (order : s ≤ e) (inside : e ≤ length xs) where
    last : IsPrefixRange xs w w (x / 2 ^ (w - w)) (slice_range xs s e) (level_position xs w x w s) (level_position xs w x w e)
    last = level_position-range xs w x s e all fit order inside w (omega arith)

    items : slice_range (level xs w w) (level_position xs w x w s) (level_position xs w x w e) ≡ filter (λ y. y == x) (slice_range xs s e)
    items =
        IsPrefixRange-last xs w w _ (slice_range xs s e) _ _ refl last
        ∙ ap (λ h. filter (λ y. y == h) (slice_range xs s e)) (prefix-all x w w refl)

    within : level_position xs w x w e ≤ length (level xs w w)
    within = omega (arith, last.inside, length-level xs w w)

  -- as many as the number stands often in the front
  pub rank-order : (i : ℕ) → i ≤ length xs → level_position xs w x w 0 ≤ level_position xs w x w i
  rank-order i inside = (last 0 i (omega arith) inside).order

  pub rank-is : (i : ℕ) → i ≤ length xs → level_position xs w x w i - level_position xs w x w 0 ≡ occurrences_before xs x i
  rank-is i inside =
      let all_of : i - 0 ≡ i = omega arith in
      sym (length-range (level xs w w) _ _ (rank-order i inside) (within 0 i (omega arith) inside))
      ∙ ap length (items 0 i (omega arith) inside)
      ∙ length-filter (λ y. y == x) (slice_range xs 0 i)
      ∙ ap (λ k. count_by (λ y. y == x) (take k xs)) all_of

  -- the k-th after the first has k of its kind before it
  pub picked-last : (k : ℕ) → k < occurrences_before xs x (length xs) → PicksItem (level xs w w) x k (level_position xs w x w 0 + k)
  picked-last k some =
      let f = level_position xs w x w 0 in
      let n = length xs in
      let l = level_position xs w x w n in
      let zs = level xs w w in
      let inside : n ≤ length xs = omega arith in
      let end = within 0 n (omega arith) inside in
      let rank = rank-is n inside in
      let passes : (j : ℕ) → j < l - f → get_or (slice_range zs f l) j 0 ≡ x = λ j h.
      ap (λ m. get_or m j 0) (items 0 n (omega arith) inside)
      ∙ eqb-true _ _ (filter_passes (λ y. y == x) (slice_range xs 0 n) j 0
      (omega (arith, ap length (items 0 n (omega arith) inside), length-range zs f l (rank-order n inside) end))) in
      record {
        inside = omega (arith, rank, some, end);
        item = sym (get_or-range zs f l k (omega (arith, rank, some))) ∙ passes k (omega (arith, rank, some));
        before =
            count-range (λ y. y == x) f (f + k) zs (omega arith)
            ∙ ap (λ m. m + count_by (λ y. y == x) (slice_range zs f (f + k))) (level_position-count xs w x w 0)
            ∙ zero-add _
            ∙ count-all (λ y. y == x) (slice_range zs f (f + k))
            (λ j h. let near : j < k = omega (arith, length-range zs f (f + k) (omega arith) (omega (arith, rank, some, end))) in
            eq-eqb _ _ (get_or-range zs f (f + k) j (omega (arith, near)) ∙ sym (get_or-range zs f l j (omega (arith, near, rank, some)))
            ∙ passes j (omega (arith, near, rank, some))))
            ∙ length-range zs f (f + k) (omega arith) (omega (arith, rank, some, end))
            ∙ omega arith;
      }

-- a number with more digits than all items is none
pub count_before-wide : (xs : List ℕ) (w x i : ℕ) → All (λ y. y < 2 ^ w) xs → (x < 2 ^ w → ⊥) → occurrences_before xs x i ≡ 0
count_before-wide xs w x i fit wide =
    omega (
      arith,
      count-take-le (λ y. y == x) i xs,
      count-none (λ y. y == x) xs
          (λ k h. ne_eqb _ _ (λ e. let P : ℕ → Type 0 = λ y. y < 2 ^ w in wide (subst P e (fit k 0 h)))),
    )

-- a number of which there is one has no more digits than all items
pub fits-where-some : (xs : List ℕ) (w x k : ℕ) → All (λ y. y < 2 ^ w) xs → k < occurrences_before xs x (length xs) → x < 2 ^ w
fits-where-some xs w x k all some =
    ⊎_elim
    (λ h. h)
    (λ h. absurd (omega (arith, some, count_before-wide xs w x (length xs) all (λ less. omega (arith, h, less)))))
    (cases_lt x (2 ^ w))

-- ---- from the last level up

pub Picks-first : (xs : List ℕ) (w up x k p : ℕ) → up ≡ w → PicksItem (level xs w (w - up)) x k p → PicksItem xs x k p
unfolding level
Picks-first xs w up x k p e picked =
    let none : w - up ≡ 0 = omega arith in
    let P : ℕ → Type 0 = λ d. PicksItem (level xs w d) x k p in subst P none picked

pub Picks-last : (xs : List ℕ) (w x k p : ℕ) → PicksItem (level xs w w) x k p → PicksItem (level xs w (w - 0)) x k p
Picks-last xs w x k p picked =
    let all : w ≡ w - 0 = omega arith in
    let P : ℕ → Type 0 = λ d. PicksItem (level xs w d) x k p in subst P all picked

pub Picks-up : (xs : List ℕ) (w up x k p : ℕ) → up < w → PicksItem (level xs w (w - up)) x k p → PicksItem (level xs w (w - 1 - up + 1)) x k p
Picks-up xs w up x k p less picked =
    let same : w - up ≡ w - 1 - up + 1 = omega arith in
    let P : ℕ → Type 0 = λ d. PicksItem (level xs w d) x k p in subst P same picked

pub Picks-down : (xs : List ℕ) (w up x k p : ℕ) → PicksItem (level xs w (w - 1 - up)) x k p → PicksItem (level xs w (w - (up + 1))) x k p
Picks-down xs w up x k p picked =
    let same : w - 1 - up ≡ w - (up + 1) = omega arith in
    let P : ℕ → Type 0 = λ d. PicksItem (level xs w d) x k p in subst P same picked
