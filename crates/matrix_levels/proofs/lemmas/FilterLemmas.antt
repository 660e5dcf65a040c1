-- What a filter makes of a part of a list, of a filter and of a count.
use Rattle.std.proofs.Common.{◌≡◌, ℕ, suc, ◌+◌, ◌-◌, ◌<◌, ◌≤◌, Bool, true, false, ◌&&◌, cond, List, [], ◌∷◌, ◌++◌, length, take, drop, get_or, count_by, Contains, filter, slice_range, refl, sym, ap, ◌∙◌, arith, ⊎_elim, zero-add}
use Rattle.std.proofs.lemmas.Bool.{cases_Bool, false_from_ne_true, true≢false, false≢true}
use Rattle.std.proofs.lemmas.List.{take-append-drop, take_at, drop_at, take-take, drop-take, drop_more, get_or_at}
use Rattle.std.proofs.lemmas.List.Elements.{filter-append}
use Rattle.std.proofs.lemmas.List.Sums.{length-filter, sum_by-append, sum_by-cons, count_by_more_yes}

module _ {X : Type 0} (p : X → Bool) where
  -- what passes in the front, and then what passes in the rest
  filter-split : (k : ℕ) (xs : List X) → filter p xs ≡ filter p (take k xs) ++ filter p (drop k xs)
  filter-split k xs = ap (filter p) (sym (take-append-drop k xs)) ∙ filter-append p (take k xs) (drop k xs)

  pub take-filter : (k : ℕ) (xs : List X) → take (count_by p (take k xs)) (filter p xs) ≡ filter p (take k xs)
  take-filter k xs =
      ap (take (count_by p (take k xs))) (filter-split k xs)
      ∙ take_at (filter p (take k xs)) (filter p (drop k xs)) _ (length-filter p (take k xs))

  pub drop-filter : (k : ℕ) (xs : List X) → drop (count_by p (take k xs)) (filter p xs) ≡ filter p (drop k xs)
  drop-filter k xs =
      ap (drop (count_by p (take k xs))) (filter-split k xs)
      ∙ drop_at (filter p (take k xs)) (filter p (drop k xs)) _ (length-filter p (take k xs))

  -- a longer front is a front and a range
  pub count-range : (s e : ℕ) (xs : List X) → s ≤ e
      → count_by p (take e xs) ≡ count_by p (take s xs) + count_by p (slice_range xs s e)
  count-range s e xs h =
      ap (count_by p) (take-range s e xs h) ∙ sum_by-append (λ x. cond (p x) 1 0) (take s xs) (slice_range xs s e)
    where
      take-range : (s e : ℕ) (xs : List X) → s ≤ e → take e xs ≡ take s xs ++ slice_range xs s e
      take-range s e xs h =
          let n : s + (e - s) ≡ e = omega arith in
          sym (take-append-drop s (take e xs))
          ∙ ap (λ k. take s (take k xs) ++ drop s (take k xs)) (sym n)
          ∙ ap (λ l. l ++ drop s (take (s + (e - s)) xs)) (take-take s (s + (e - s)) xs (omega arith))
          ∙ ap (λ l. take s xs ++ l) (drop-take s (e - s) xs)

  -- a range of what passes is what passes in a range
  pub range-filter : (s e : ℕ) (xs : List X) → s ≤ e
      → slice_range (filter p xs) (count_by p (take s xs)) (count_by p (take e xs)) ≡ filter p (slice_range xs s e)
  range-filter s e xs h =
      let n : count_by p (take e xs) - count_by p (take s xs) ≡ count_by p (slice_range xs s e) = omega (arith, count-range s e xs h) in
      ap (λ k. take k (drop (count_by p (take s xs)) (filter p xs))) n
      ∙ ap (take (count_by p (slice_range xs s e))) (drop-filter s xs)
      ∙ take-filter (e - s) (drop s xs)

  pub count-take-le : (k : ℕ) (xs : List X) → count_by p (take k xs) ≤ count_by p xs
  count-take-le k xs =
      let e = ap (count_by p) (take-append-drop k xs) in
      omega (arith, e, sum_by-append (λ x. cond (p x) 1 0) (take k xs) (drop k xs))

  -- no more pass in a shorter front
  pub count-grows : (s e : ℕ) (xs : List X) → s ≤ e → count_by p (take s xs) ≤ count_by p (take e xs)
  count-grows s e xs h = omega (arith, count-range s e xs h)

  -- an item that passes stands where as many pass before it
  pub filter-at : (k : ℕ) (xs : List X) (d : X) → k < length xs → p (get_or xs k d) ≡ true
      → get_or (filter p xs) (count_by p (take k xs)) d ≡ get_or xs k d
  filter-at k xs d h passes =
      let front = filter p (take k xs) in
      let rest = filter p (drop (k + 1) xs) in
      let here : filter p (drop k xs) ≡ get_or xs k d ∷ rest =
      ap (filter p) (drop_more xs k d h) ∙ ap (λ b. cond b (get_or xs k d ∷ rest) rest) passes in
      ap (λ l. get_or l (count_by p (take k xs)) d) (filter-split k xs ∙ ap (λ l. front ++ l) here)
      ∙ get_or_at front (get_or xs k d) rest d _ (length-filter p (take k xs))

  -- and there are more than those before it
  pub count-at : (k : ℕ) (xs : List X) (d : X) → k < length xs → p (get_or xs k d) ≡ true
      → count_by p (take k xs) < count_by p xs
  count-at k xs d h passes =
      omega (arith, count_by_more_yes p xs k d h passes, count-take-le (k + 1) xs)

-- what a second test leaves of the first, where one test is both
pub filter-filter : (p q r : ℕ → Bool) → ((x : ℕ) → r x ≡ (q x && p x)) → (xs : List ℕ) → filter p (filter q xs) ≡ filter r xs
filter-filter p q r both [] = refl
filter-filter p q r both (x ∷ xs) =
    let rest = filter-filter p q r both xs in
    ⊎_elim
    (λ t. ap (λ b. filter p (cond b (x ∷ filter q xs) (filter q xs))) t
    ∙ ap (λ l. cond (p x) (x ∷ l) l) rest
    ∙ ap (λ b. cond b (x ∷ filter r xs) (filter r xs)) (sym (both x ∙ ap (λ b. b && p x) t)))
    (λ f. ap (λ b. filter p (cond b (x ∷ filter q xs) (filter q xs))) f
    ∙ rest
    ∙ ap (λ b. cond b (x ∷ filter r xs) (filter r xs)) (sym (both x ∙ ap (λ b. b && p x) f)))
    (cases_Bool (q x))

-- a test that passes nowhere but where the filter does counts the same after it
pub count-filter : (p q : ℕ → Bool) → ((x : ℕ) → q x ≡ true → p x ≡ true) → (xs : List ℕ) → count_by q (filter p xs) ≡ count_by q xs
count-filter p q within [] = refl
count-filter p q within (x ∷ xs) =
    let rest = count-filter p q within xs in
    let f : ℕ → ℕ = λ y. cond (q y) 1 0 in
    ⊎_elim
    (λ t. ap (λ b. count_by q (cond b (x ∷ filter p xs) (filter p xs))) t
    ∙ sum_by-cons f x (filter p xs) ∙ ap (λ n. f x + n) rest ∙ sym (sum_by-cons f x xs))
    (λ n. ap (λ b. count_by q (cond b (x ∷ filter p xs) (filter p xs))) n
    ∙ rest
    ∙ sym (sum_by-cons f x xs ∙ ap (λ b. cond b 1 0 + count_by q xs) (no x n) ∙ zero-add (count_by q xs)))
    (cases_Bool (p x))
  where
    no : (y : ℕ) → p y ≡ false → q y ≡ false
    no y n = false_from_ne_true (q y) (λ t. false≢true (sym n ∙ within y t))

-- and one that passes only where it does not counts none
pub count-filter-none : (p q : ℕ → Bool) → ((x : ℕ) → q x ≡ true → p x ≡ false) → (xs : List ℕ) → count_by q (filter p xs) ≡ 0
count-filter-none p q beside [] = refl
count-filter-none p q beside (x ∷ xs) =
    let rest = count-filter-none p q beside xs in
    let f : ℕ → ℕ = λ y. cond (q y) 1 0 in
    ⊎_elim
    (λ t. ap (λ b. count_by q (cond b (x ∷ filter p xs) (filter p xs))) t
    ∙ sum_by-cons f x (filter p xs)
    ∙ ap (λ b. cond b 1 0 + count_by q (filter p xs)) (no x t) ∙ zero-add (count_by q (filter p xs)) ∙ rest)
    (λ n. ap (λ b. count_by q (cond b (x ∷ filter p xs) (filter p xs))) n ∙ rest)
    (cases_Bool (p x))
  where
    no : (y : ℕ) → p y ≡ true → q y ≡ false
    no y t = false_from_ne_true (q y) (λ u. true≢false (sym t ∙ beside y u))

-- a filter that all pass leaves all
pub filter-all : (p : ℕ → Bool) (xs : List ℕ) → ((k : ℕ) → k < length xs → p (get_or xs k 0) ≡ true) → filter p xs ≡ xs
filter-all p [] all = refl
filter-all p (x ∷ xs) all =
    ap (λ b. cond b (x ∷ filter p xs) (filter p xs)) (all 0 (omega arith))
    ∙ ap (λ l. x ∷ l) (filter-all p xs (λ k h. all (suc k) (omega arith)))

-- an item that passes is kept
pub contains-filter : (p : ℕ → Bool) (xs : List ℕ) (k x : ℕ) → k < length xs → get_or xs k x ≡ x → p x ≡ true → Contains (filter p xs) x
contains-filter p xs k x inside is passes =
    let yes = ap p is ∙ passes in
    (count_by p (take k xs), omega (arith, count-at p k xs x inside yes, length-filter p xs), filter-at p k xs x inside yes ∙ is)
