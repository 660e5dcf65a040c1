-- Where numbers stand after some deals, and what stands between two positions.
use Rattle.std.proofs.Common.{◌≡◌, ℕ, zero, suc, ◌+◌, ◌-◌, ◌*◌, ◌/◌, ◌%◌, ◌^◌, ◌<◌, ◌≤◌, ◌==◌, ◌&&◌, true, List, length, take, drop, get_or, count_by, filter, slice_range, All, refl, sym, ap, ◌∙◌, subst, arith, add-one, zero-add, ⊎_elim}
use Rattle.std.proofs.lemmas.Bool.{eq-eqb, eqb-true, ne_eqb, and_from, and_left, and_right}
use Rattle.std.proofs.lemmas.Bool.Decides.{eqb_tells}
use Rattle.std.proofs.lemmas.List.{length-drop, length-take}
use Rattle.std.proofs.lemmas.List.Elements.{filter_agree, filter_passes}
use Rattle.std.proofs.lemmas.List.Sums.{length-filter}
use Rattle.std.proofs.lemmas.Nat.{shr-shr}
use Rattle.std.proofs.Math.Nat.{div-eq_of_lt, div-one}
use Rattle.digits.specs.Digits.{digit_from}
use Rattle.digit_levels.specs.Levels.{dealt, dealt_position, has_quad, quad_level, quad_level_position, quad_position}
use Rattle.matrix_levels.specs.Levels.{has_prefix}
use Rattle.matrix_levels.specs.Numbers.{occurrences_before, PicksItem}
use Rattle.matrix_levels.proofs.lemmas.CountLemmas.{count-all, get_or-range, length-range}
use Rattle.matrix_levels.proofs.lemmas.FilterLemmas.{count-range, filter-all, filter-filter}
use Rattle.digit_levels.proofs.lemmas.DealLemmas.{count-dealt, dealt_position-grows, dealt_position-inside, dealt-inside, item-dealt, length-dealt, range-dealt}

-- ---- digits

-- a digit is less than 4
pub quad-few : (k x : ℕ) → digit_from k x < 4
quad-few k x = omega arith

-- a number has its own digit
pub has-own : (k x : ℕ) → has_quad k (digit_from k x) x ≡ true
has-own k x = eq-eqb (digit_from k x) (digit_from k x) refl

shr-two : (x k : ℕ) → x / 2 ^ (k + 2) ≡ x / 2 ^ k / 4
shr-two x k = sym (shr-shr x k 2)

-- the first digits and one more
pub prefix-more : (k x : ℕ) → x / 2 ^ k ≡ 4 * (x / 2 ^ (k + 2)) + digit_from k x
prefix-more k x = omega (arith, shr-two x k)

quarter : (a b : ℕ) → (a == b) ≡ ((a / 4 == b / 4) && (a % 4 == b % 4))
quarter a b =
    ⊎_elim
    (λ t. ⊎_elim
    (λ u. eq-eqb a b (omega (arith, t.1, u.1)) ∙ sym (and_from _ _ t.0 u.0))
    (λ u. ne_eqb a b (λ e. u.1 (ap (λ n. n % 4) e)) ∙ sym (and_right _ _ u.0))
    (eqb_tells (a % 4) (b % 4)))
    (λ t. ne_eqb a b (λ e. t.1 (ap (λ n. n / 4) e)) ∙ sym (and_left _ _ t.0))
    (eqb_tells (a / 4) (b / 4))

-- what begins as v does, with one digit more
begins-more : (k v x : ℕ) → has_prefix k (v / 2 ^ k) x ≡ (has_prefix (k + 2) (v / 2 ^ (k + 2)) x && has_quad k (digit_from k v) x)
begins-more k v x =
    quarter (x / 2 ^ k) (v / 2 ^ k)
    ∙ ap (λ a. (a == v / 2 ^ k / 4) && (x / 2 ^ k % 4 == v / 2 ^ k % 4)) (sym (shr-two x k))
    ∙ ap (λ b. (x / 2 ^ (k + 2) == b) && (x / 2 ^ k % 4 == v / 2 ^ k % 4)) (sym (shr-two v k))

filter-more : (k v : ℕ) (xs : List ℕ)
    → filter (has_quad k (digit_from k v)) (filter (has_prefix (k + 2) (v / 2 ^ (k + 2))) xs) ≡ filter (has_prefix k (v / 2 ^ k)) xs
filter-more k v xs =
    filter-filter (has_quad k (digit_from k v)) (has_prefix (k + 2) (v / 2 ^ (k + 2))) (has_prefix k (v / 2 ^ k)) (begins-more k v) xs

-- ---- levels

pub length-quad_level : (xs : List ℕ) (h d : ℕ) → length (quad_level xs h d) ≡ length xs
unfolding quad_level
length-quad_level xs h zero = refl
length-quad_level xs h (suc d) = length-dealt (quad_position h d) (quad_level xs h d) ∙ length-quad_level xs h d

pub quad_level_position-inside : (xs : List ℕ) (h x d p : ℕ) → p ≤ length xs → quad_level_position xs h x d p ≤ length xs
unfolding quad_level_position
quad_level_position-inside xs h x zero p inside = inside
quad_level_position-inside xs h x (suc d) p inside =
    let k = quad_position h d in
    omega (
      arith,
      dealt_position-inside k (digit_from k x) (quad-few k x) (quad_level xs h d) (quad_level_position xs h x d p),
      length-quad_level xs h d,
    )

pub quad_level_position-more : (xs : List ℕ) (h x d p : ℕ) → quad_level_position xs h x (d + 1) p
    ≡ dealt_position (quad_position h d) (digit_from (quad_position h d) x) (quad_level xs h d) (quad_level_position xs h x d p)
unfolding quad_level_position
quad_level_position-more xs h x d p = ap (λ e. quad_level_position xs h x e p) (add-one d)

-- an item stands there
pub quad_level_position-item : (xs : List ℕ) (h x d p : ℕ) → p < length xs → get_or xs p 0 ≡ x
    → (quad_level_position xs h x d p < length xs) × (get_or (quad_level xs h d) (quad_level_position xs h x d p) 0 ≡ x)
unfolding quad_level_position quad_level
quad_level_position-item xs h x zero p inside is = (inside, is)
quad_level_position-item xs h x (suc d) p inside is =
    let k = quad_position h d in
    let ys = quad_level xs h d in
    let q = quad_level_position xs h x d p in
    let before = quad_level_position-item xs h x d p inside is in
    let len = length-quad_level xs h d in
    let within : q < length ys = omega (arith, before.0, len) in
    let has : has_quad k (digit_from k x) (get_or ys q 0) ≡ true = ap (has_quad k (digit_from k x)) before.1 ∙ has-own k x in (
      omega (arith, len, dealt-inside k (digit_from k x) (quad-few k x) ys q within has),
      item-dealt k (digit_from k x) (quad-few k x) ys q within has ∙ before.1,
    )

-- as many of the number stand before it
pub quad_level_position-count : (xs : List ℕ) (h x d p : ℕ)
    → occurrences_before (quad_level xs h d) x (quad_level_position xs h x d p) ≡ occurrences_before xs x p
unfolding quad_level_position quad_level
quad_level_position-count xs h x zero p = refl
quad_level_position-count xs h x (suc d) p =
    let k = quad_position h d in
    count-dealt k (digit_from k x) (quad-few k x) (quad_level xs h d) x (has-own k x) (quad_level_position xs h x d p)
    ∙ quad_level_position-count xs h x d p

-- ---- ranges

module _ (xs : List ℕ) (h x : ℕ) (fit : All (λ y. y < 2 ^ (2 * h)) xs) (small : x < 2 ^ (2 * h)) (s e : ℕ) (order : s ≤ e) where
  all-begin : filter (has_prefix (2 * h) (x / 2 ^ (2 * h))) (slice_range xs s e) ≡ slice_range xs s e
  all-begin =
      filter-all (has_prefix (2 * h) (x / 2 ^ (2 * h))) (slice_range xs s e)
      (λ i within.
      let len = length-take (e - s) (drop s xs) in
      let inside : s + i < length xs = omega (arith, within, len, length-drop s xs) in
      eq-eqb _ _
      (div-eq_of_lt (let P : ℕ → Type 0 = λ y. y < 2 ^ (2 * h) in subst P (sym (get_or-range xs s e i (omega (arith, within, len)))) (fit (s + i) 0 inside))
      ∙ sym (div-eq_of_lt small)))

  pub range-level : (d : ℕ) → d ≤ h
      → (quad_level_position xs h x d s ≤ quad_level_position xs h x d e)
      × (slice_range (quad_level xs h d) (quad_level_position xs h x d s) (quad_level_position xs h x d e)
      ≡ filter (has_prefix (2 * (h - d)) (x / 2 ^ (2 * (h - d)))) (slice_range xs s e))
  unfolding quad_level_position quad_level
  range-level zero most =
      let none : 2 * h ≡ 2 * (h - 0) = omega arith in
      (order, sym all-begin ∙ ap (λ n. filter (has_prefix n (x / 2 ^ n)) (slice_range xs s e)) none)
  range-level (suc d) most =
      let k = quad_position h d in
      let v = digit_from k x in
      let ys = quad_level xs h d in
      let before = range-level d (omega arith) in
      let here : 2 * (h - d) ≡ k + 2 = omega arith in
      let there : k ≡ 2 * (h - suc d) = omega arith in (
        dealt_position-grows k v (quad-few k x) ys _ _ before.0,
        range-dealt k v (quad-few k x) ys _ _ before.0
            ∙ ap (filter (has_quad k v)) (before.1 ∙ ap (λ n. filter (has_prefix n (x / 2 ^ n)) (slice_range xs s e)) here)
            ∙ filter-more k x (slice_range xs s e)
            ∙ ap (λ n. filter (has_prefix n (x / 2 ^ n)) (slice_range xs s e)) there,
      )

-- ---- the last level

module _ (xs : List ℕ) (h x : ℕ) (fit : All (λ y. y < 2 ^ (2 * h)) xs) (small : x < 2 ^ (2 * h)) where
  abbrev pub start : ℕ
  start = quad_level_position xs h x h 0

  -- the number's items of a front stand side by side
  items : (e : ℕ) → slice_range (quad_level xs h h) start (quad_level_position xs h x h e) ≡ filter (λ y. y == x) (take e xs)
  items e =
      let none : 2 * (h - h) ≡ 0 = omega arith in
      (range-level xs h x fit small 0 e (omega arith) h (omega arith)).1
      ∙ ap (λ n. filter (has_prefix n (x / 2 ^ n)) (slice_range xs 0 e)) none
      ∙ ap (λ n. filter (has_prefix 0 (x / 2 ^ 0)) (take n xs)) (let whole : e - 0 ≡ e = omega arith in whole)
      ∙ filter_agree (λ y. y / 2 ^ 0 == x / 2 ^ 0) (λ y. y == x) (λ y. ap (λ a. a == x / 2 ^ 0) (div-one y) ∙ ap (λ b. y == b) (div-one x)) (take e xs)

  pub rank-order : (e : ℕ) → start ≤ quad_level_position xs h x h e
  rank-order e = (range-level xs h x fit small 0 e (omega arith) h (omega arith)).0

  inside-last : (e : ℕ) → e ≤ length xs → quad_level_position xs h x h e ≤ length (quad_level xs h h)
  inside-last e within = omega (arith, quad_level_position-inside xs h x h e within, length-quad_level xs h h)

  -- as many as the number stands often in the front
  pub rank-is : (e : ℕ) → e ≤ length xs → start + occurrences_before xs x e ≡ quad_level_position xs h x h e
  rank-is e within =
      omega (
        arith,
        rank-order e,
        length-range (quad_level xs h h) start (quad_level_position xs h x h e) (rank-order e) (inside-last e within),
        ap length (items e),
        length-filter (λ y. y == x) (take e xs),
      )

  -- the k-th after the first has k of its kind before it
  pub picked-last : (k : ℕ) → k < occurrences_before xs x (length xs) → PicksItem (quad_level xs h h) x k (start + k)
  picked-last k some =
      let n = length xs in
      let l = quad_level_position xs h x h n in
      let zs = quad_level xs h h in
      let within : n ≤ length xs = omega arith in
      let end = inside-last n within in
      let rank = rank-is n within in
      let long = length-range zs start l (rank-order n) end in
      let passes : (j : ℕ) → j < l - start → get_or (slice_range zs start l) j 0 ≡ x = λ j less.
      ap (λ m. get_or m j 0) (items n)
      ∙ eqb-true _ _ (filter_passes (λ y. y == x) (take n xs) j 0 (omega (arith, ap length (items n), long, less))) in
      record {
        inside = omega (arith, rank, some, end);
        item = sym (get_or-range zs start l k (omega (arith, rank, some))) ∙ passes k (omega (arith, rank, some));
        before =
            count-range (λ y. y == x) start (start + k) zs (omega arith)
            ∙ ap (λ m. m + count_by (λ y. y == x) (slice_range zs start (start + k))) (quad_level_position-count xs h x h 0)
            ∙ zero-add _
            ∙ count-all (λ y. y == x) (slice_range zs start (start + k))
            (λ j near. let less : j < k = omega (arith, near, length-range zs start (start + k) (omega arith) (omega (arith, rank, some, end))) in
            eq-eqb _ _ (get_or-range zs start (start + k) j (omega (arith, less)) ∙ sym (get_or-range zs start l j (omega (arith, less, rank, some)))
            ∙ passes j (omega (arith, less, rank, some))))
            ∙ length-range zs start (start + k) (omega arith) (omega (arith, rank, some, end))
            ∙ omega arith;
      }

pub level-first : (xs : List ℕ) (h : ℕ) → xs ≡ quad_level xs h 0
unfolding quad_level
level-first xs h = refl

pub level-next : (xs : List ℕ) (h d : ℕ) → quad_level xs h (d + 1) ≡ dealt (quad_position h d) (quad_level xs h d)
unfolding quad_level
level-next xs h d = ap (quad_level xs h) (add-one d)
