-- The distinct numbers of a list: the next one, and what all of them are.
use Rattle.std.proofs.Common.{◌≡◌, ℕ, zero, suc, ◌+◌, ◌<◌, ◌≤◌, nat_lt, nat_le, ◌==◌, ◌&&◌, Bool, true, false, cond, List, [], ◌∷◌, length, map, get_or, All, Contains, filter, refl, sym, ap, ◌∙◌, arith, ⊎_elim, zero-add}
use Rattle.std.proofs.lemmas.Bool.{lt-ltb, le-ltb, le-leb, lt-leb, ltb-true, eq-eqb, cases_lt, and_from, and_left, and_parts, and_right}
use Rattle.std.proofs.lemmas.List.{length-map, get_or-map}
use Rattle.std.proofs.lemmas.List.Elements.{All-map, All-weaker, All-contains, Contains-get_or, filter_passes}
use Rattle.std.proofs.lemmas.List.FromFn.{length-range_with_len, get_or-range_with_len}
use Rattle.std.proofs.lemmas.List.Kept.{AllPairs-from_increasing, IsStrictlyIncreasing-filter}
use Rattle.std.proofs.lemmas.List.Sums.{count_by-le-length, get_or-le-sum_by}
use Rattle.std.specs.List.{AllPairs, range_with_len}
use Rattle.std.specs.List.Sorted.{IsStrictlyIncreasing}
use Rattle.matrix_levels.specs.Distinct.{AreDistinct, StandsBetween, coming_tallies, is_coming, is_from, tallies_from, tally}
use Rattle.matrix_levels.specs.Numbers.{count_equal, count_less, IsSmallest}
use Rattle.matrix_levels.proofs.lemmas.FilterLemmas.{contains-filter}
use Rattle.matrix_levels.proofs.lemmas.OrderLemmas.{at_most-is, count_less-grows}
use Rattle.matrix_levels.proofs.lemmas.RangeLemmas.{at-most, contained}

-- ---- filters

pub filter-none : (p : ℕ → Bool) (xs : List ℕ) → ((k : ℕ) → k < length xs → p (get_or xs k 0) ≡ false) → filter p xs ≡ []
filter-none p [] none = refl
filter-none p (x ∷ xs) none =
    ap (λ b. cond b (x ∷ filter p xs) (filter p xs)) (none 0 (omega arith)) ∙ filter-none p xs (λ k h. none (suc k) (omega arith))

pub filter-same : (p q : ℕ → Bool) (xs : List ℕ) → ((k : ℕ) → k < length xs → p (get_or xs k 0) ≡ q (get_or xs k 0)) → filter p xs ≡ filter q xs
filter-same p q [] same = refl
filter-same p q (x ∷ xs) same =
    ap (λ b. cond b (x ∷ filter p xs) (filter p xs)) (same 0 (omega arith))
    ∙ ap (λ l. cond (q x) (x ∷ l) l) (filter-same p q xs (λ k h. same (suc k) (omega arith)))

-- the first that passes, and those that pass after it, which are all that pass a second test
pub filter-first : (p q : ℕ → Bool) (xs : List ℕ) (k : ℕ) → k < length xs → p (get_or xs k 0) ≡ true
    → ((j : ℕ) → j < k → p (get_or xs j 0) ≡ false)
    → ((j : ℕ) → j ≤ k → q (get_or xs j 0) ≡ false)
    → ((j : ℕ) → k < j → j < length xs → q (get_or xs j 0) ≡ p (get_or xs j 0))
    → filter p xs ≡ get_or xs k 0 ∷ filter q xs
filter-first p q [] k inside is none passed later = absurd (omega arith)
filter-first p q (x ∷ xs) zero inside is none passed later =
    ap (λ b. cond b (x ∷ filter p xs) (filter p xs)) is
    ∙ ap (λ l. x ∷ l) (filter-same p q xs (λ j h. sym (later (suc j) (omega arith) (omega arith))))
    ∙ ap (λ b. x ∷ cond b (x ∷ filter q xs) (filter q xs)) (sym (passed 0 (omega arith)))
filter-first p q (x ∷ xs) (suc k) inside is none passed later =
    ap (λ b. cond b (x ∷ filter p xs) (filter p xs)) (none 0 (omega arith))
    ∙ filter-first p q xs k (omega arith) is (λ j h. none (suc j) (omega arith)) (λ j h. passed (suc j) (omega arith)) (λ j h i. later (suc j) (omega arith) (omega arith))
    ∙ ap (λ b. get_or xs k 0 ∷ cond b (x ∷ filter q xs) (filter q xs)) (sym (passed 0 (omega arith)))

-- ---- counts

pub count-step : (xs : List ℕ) (v : ℕ) → count_less xs (v + 1) ≡ count_less xs v + count_equal xs v
count-step xs v = sym (at_most-is xs v) ∙ at-most v xs

pub counted : (xs : List ℕ) (x : ℕ) → Contains xs x → 0 < count_equal xs x
counted xs x h = omega (arith, get_or-le-sum_by (λ y. cond (y == x) 1 0) xs h.0 x h.1, ap {B = ℕ} (λ b. cond b 1 0) (eq-eqb _ x h.2))

not-in : (xs : List ℕ) (less v : ℕ) → count_equal xs v ≡ 0 → is_coming xs less v ≡ false
not-in xs less v none = and_left (nat_lt 0 (count_equal xs v)) (nat_le less (count_less xs v)) (le-ltb 0 (count_equal xs v) (omega arith))

-- an item is not coming where fewer than so many are less
not-coming : (xs : List ℕ) (less v : ℕ) → count_less xs (v + 1) ≤ less → is_coming xs less v ≡ false
not-coming xs less v few =
    ⊎_elim
    (λ l. and_right (nat_lt 0 (count_equal xs v)) (nat_le less (count_less xs v)) (lt-leb less (count_less xs v) (omega (arith, l, few, count-step xs v))))
    (λ g. not-in xs less v (omega (arith, g)))
    (cases_lt 0 (count_equal xs v))

-- none come after all
pub coming-none : (xs : List ℕ) (n less : ℕ) → length xs ≤ less → coming_tallies xs n less ≡ []
unfolding coming_tallies
coming-none xs n less all =
    ap (map (tally xs)) (filter-none (is_coming xs less) (range_with_len 0 n)
    (λ k h. not-coming xs less _ (omega (arith, all, count_by-le-length (λ y. nat_lt y (get_or (range_with_len 0 n) k 0 + 1)) xs))))

-- x is the item with so many less than it, and is there c times
module _ (xs : List ℕ) (n less x c : ℕ) (s : StandsBetween xs n less) (is : IsSmallest xs less x) (count : c ≡ count_equal xs x) where
  at : count_less xs x ≡ less
  at =
      ⊎_elim
      (λ l. absurd (omega (arith, s.whole x l, is.at_most, at_most-is xs x)))
      (λ g. omega (arith, g, is.less))
      (cases_lt (count_less xs x) less)

  pub after : count_less xs (x + 1) ≡ less + c
  after = omega (arith, at, count, count-step xs x)

  pub after-inside : less + c ≤ length xs
  after-inside = omega (arith, after, count_by-le-length (λ y. nat_lt y (x + 1)) xs)

  some : 0 < c
  some = omega (arith, after, is.at_most, at_most-is xs x)

  below : x < n
  below = let P : ℕ → Type 0 = λ y. y < n in All-contains P xs x s.fit is.item

  -- it comes now, and then those after it
  pub coming-first : coming_tallies xs n less ≡ (x, c) ∷ coming_tallies xs n (less + c)
  unfolding coming_tallies
  coming-first =
      ap (map (tally xs))
      (filter-first (is_coming xs less) (is_coming xs (less + c)) (range_with_len 0 n) x (omega (arith, length-range_with_len 0 n, below))
      (ap (is_coming xs less) (item x below)
      ∙ and_from (nat_lt 0 (count_equal xs x)) (nat_le less (count_less xs x)) (lt-ltb 0 (count_equal xs x) (omega (arith, some, count)))
      (le-leb less (count_less xs x) (omega (arith, at))))
      (λ j h. ap (is_coming xs less) (item j (omega (arith, below))) ∙ not-coming xs less j (omega (arith, at, count_less-grows xs (j + 1) x (omega arith))))
      (λ j h. ap (is_coming xs (less + c)) (item j (omega (arith, below)))
      ∙ not-coming xs (less + c) j (omega (arith, after, count_less-grows xs (j + 1) (x + 1) (omega arith))))
      (λ j h i. later (get_or (range_with_len 0 n) j 0) (omega (arith, item j (omega (arith, i, length-range_with_len 0 n)), h))))
      ∙ ap (λ y. tally xs y ∷ map (tally xs) (filter (is_coming xs (less + c)) (range_with_len 0 n))) (item x below)
      ∙ ap (λ k. (x, k) ∷ map (tally xs) (filter (is_coming xs (less + c)) (range_with_len 0 n))) (sym count)
    where
      item : (j : ℕ) → j < n → get_or (range_with_len 0 n) j 0 ≡ j
      item j h = get_or-range_with_len 0 n j 0 h ∙ zero-add j

      later : (v : ℕ) → x < v → is_coming xs (less + c) v ≡ is_coming xs less v
      later v h =
          let most = count_less-grows xs (x + 1) v (omega arith) in
          ap (λ b. nat_lt 0 (count_equal xs v) && b)
          (le-leb (less + c) (count_less xs v) (omega (arith, most, after)) ∙ sym (le-leb less (count_less xs v) (omega (arith, most, after))))

  pub stands-after : StandsBetween xs n (less + c)
  stands-after = record {
    fit = s.fit;
    whole = λ v l.
        ⊎_elim
        (λ h. absurd (omega (arith, after, l, count_less-grows xs (x + 1) v (omega (arith, h)))))
        (λ h. omega (arith, after, count_less-grows xs (v + 1) (x + 1) (omega (arith, h))))
        (cases_lt x v);
  }

-- ---- all

pub stands-first : (xs : List ℕ) (n : ℕ) → All (λ x. x < n) xs → StandsBetween xs n 0
stands-first xs n fit = record { fit = fit; whole = λ v l. absurd (omega (arith, l)) }

module _ (xs : List ℕ) (n : ℕ) (fit : All (λ x. x < n) xs) where
  numbers : List ℕ
  numbers = filter (is_coming xs 0) (range_with_len 0 n)

  rising : AllPairs (λ p q. p.0 < q.0) (map (tally xs) numbers)
  unfolding numbers
  rising = λ i j d before inside.
      let here : j < length numbers = omega (arith, length-map numbers (tally xs)) in
      let range : IsStrictlyIncreasing (range_with_len 0 n) = λ k h.
      omega (
        arith,
        length-range_with_len 0 n,
        get_or-range_with_len 0 n k 0 (omega (arith, length-range_with_len 0 n)),
        get_or-range_with_len 0 n (k + 1) 0 (omega (arith, length-range_with_len 0 n)),
      ) in
      omega (
        arith,
        AllPairs-from_increasing numbers (IsStrictlyIncreasing-filter (is_coming xs 0) (range_with_len 0 n) range) i j 0 before here,
        ap (λ (p : ℕ × ℕ). p.0) (get_or-map (tally xs) numbers i 0 d (omega arith)),
        ap (λ (p : ℕ × ℕ). p.0) (get_or-map (tally xs) numbers j 0 d here),
      )

  there : (v : ℕ) → is_coming xs 0 v ≡ true → Contains xs v
  there v h = contained v xs (ltb-true 0 (count_equal xs v) (and_parts (nat_lt 0 (count_equal xs v)) (nat_le 0 (count_less xs v)) h).0)

  counts : All (λ p. Contains xs p.0 × (p.1 ≡ count_equal xs p.0)) (map (tally xs) numbers)
  unfolding numbers
  counts =
      let P : ℕ × ℕ → Type 0 = λ p. Contains xs p.0 × (p.1 ≡ count_equal xs p.0) in
      All-map P (tally xs) numbers
      (All-weaker (λ v. is_coming xs 0 v ≡ true) (λ v. P (tally xs v)) (λ v h. (there v h, refl)) numbers
      (filter_passes (is_coming xs 0) (range_with_len 0 n)))

  comes : (x : ℕ) → Contains xs x → is_coming xs 0 x ≡ true
  comes x h =
      and_from (nat_lt 0 (count_equal xs x)) (nat_le 0 (count_less xs x))
      (lt-ltb 0 (count_equal xs x) (counted xs x h))
      (le-leb 0 (count_less xs x) (omega arith))

  all : All (λ x. Contains (map (tally xs) numbers) (tally xs x)) xs
  unfolding numbers
  all = λ k d inside.
      let x = get_or xs k d in
      let low : x < n = fit k d inside in
      let in_numbers =
      contains-filter (is_coming xs 0) (range_with_len 0 n) x x (omega (arith, length-range_with_len 0 n)) (get_or-range_with_len 0 n x x low ∙ zero-add x)
      (comes x (Contains-get_or xs k d inside)) in (
        in_numbers.0,
        omega (arith, in_numbers.1, length-map numbers (tally xs)),
        get_or-map (tally xs) numbers in_numbers.0 x (tally xs x) in_numbers.1 ∙ ap (tally xs) in_numbers.2,
      )

  pub coming-all : AreDistinct xs (coming_tallies xs n 0)
  unfolding coming_tallies numbers
  coming-all = record { rising = rising; counts = counts; all = all }

-- ---- those from a number on

-- so many are less than it, and all equal items with them
pub stands-from : (xs : List ℕ) (n from : ℕ) → All (λ x. x < n) xs → StandsBetween xs n (count_less xs from)
stands-from xs n from fit = record {
  fit = fit;
  whole = λ v l.
      ⊎_elim
      (λ h. count_less-grows xs (v + 1) from (omega (arith, h)))
      (λ h. absurd (omega (arith, l, count_less-grows xs from v h)))
      (cases_lt v from);
}

-- they are those that come after so many
pub coming-from : (xs : List ℕ) (n from : ℕ) → coming_tallies xs n (count_less xs from) ≡ tallies_from xs n from
unfolding coming_tallies tallies_from
coming-from xs n from =
    ap (map (tally xs)) (filter-same (is_coming xs (count_less xs from)) (is_from xs from) (range_with_len 0 n)
    (λ k h. same (get_or (range_with_len 0 n) k 0)))
  where
    same : (v : ℕ) → is_coming xs (count_less xs from) v ≡ is_from xs from v
    same v =
        ⊎_elim
        (λ l. ⊎_elim
        (λ there. ap (λ b. nat_lt 0 (count_equal xs v) && b)
        (lt-leb (count_less xs from) (count_less xs v)
        (omega (arith, there, count-step xs v, count_less-grows xs (v + 1) from (omega (arith, l))))
        ∙ sym (lt-leb from v l)))
        (λ none. not-in xs (count_less xs from) v (omega (arith, none))
        ∙ sym (and_left (nat_lt 0 (count_equal xs v)) (nat_le from v) (le-ltb 0 (count_equal xs v) none)))
        (cases_lt 0 (count_equal xs v)))
        (λ g. ap (λ b. nat_lt 0 (count_equal xs v) && b)
        (le-leb (count_less xs from) (count_less xs v) (count_less-grows xs from v g) ∙ sym (le-leb from v g)))
        (cases_lt v from)
