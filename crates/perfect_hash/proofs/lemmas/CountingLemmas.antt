-- How many items of a list pass a test.
use Rattle.std.proofs.Common.{◌≡◌, ℕ, zero, suc, ◌+◌, ◌≤◌, Bool, true, false, not, ◌&&◌, cond, List, [], ◌∷◌, length, Some, refl, sym, ap, ◌∙◌, arith, eqb, ltb, ⊎_elim}
use Rattle.std.proofs.lemmas.Bool.{cases_order, eq-eqb, ne_eqb, lt-ltb, le-ltb}
use Rattle.std.proofs.lemmas.List.Sums.{sum_by-cons, count_by-le-length}
use Rattle.std.specs.List.{count_by, filter, slice_get}

-- what a test adds to a count
abbrev pub one_if : Bool → ℕ
one_if b = cond b 1 0

pub count_by-cons : {K : Type 0} (p : K → Bool) (x : K) (xs : List K) → count_by p (x ∷ xs) ≡ one_if (p x) + count_by p xs
count_by-cons p x xs = sum_by-cons (λ y. one_if (p y)) x xs

-- tests that agree count the same
pub count_by-agree : {K : Type 0} (p q : K → Bool) → ((x : K) → p x ≡ q x) → (xs : List K) → count_by p xs ≡ count_by q xs
count_by-agree p q agree [] = refl
count_by-agree p q agree (x ∷ xs) =
    omega (arith, count_by-cons p x xs, count_by-cons q x xs, ap one_if (agree x), count_by-agree p q agree xs)

-- a test that is one of two others, and never both
pub count_by-either : {K : Type 0} (p q r : K → Bool) → ((x : K) → one_if (p x) ≡ one_if (q x) + one_if (r x)) → (xs : List K)
    → count_by p xs ≡ count_by q xs + count_by r xs
count_by-either p q r either [] = refl
count_by-either p q r either (x ∷ xs) =
    omega (arith, count_by-cons p x xs, count_by-cons q x xs, count_by-cons r x xs, either x, count_by-either p q r either xs)

-- no item passes
pub count_by-none : {K : Type 0} (p : K → Bool) → ((x : K) → p x ≡ false) → (xs : List K) → count_by p xs ≡ 0
count_by-none p none [] = refl
count_by-none p none (x ∷ xs) =
    omega (arith, count_by-cons p x xs, ap one_if (none x), count_by-none p none xs)

filter-step : {K : Type 0} (p q : K → Bool) (x : K) (xs : List K) (b : Bool) → q x ≡ b
    → count_by p (filter q xs) ≡ count_by (λ y. q y && p y) xs
    → count_by p (filter q (x ∷ xs)) ≡ count_by (λ y. q y && p y) (x ∷ xs)
filter-step p q x xs true e rest =
    let kept : count_by p (filter q (x ∷ xs)) ≡ count_by p (x ∷ filter q xs) = ap (λ (b : Bool). count_by p (cond b (x ∷ filter q xs) (filter q xs))) e in
    let one : one_if (q x && p x) ≡ one_if (p x) = ap (λ (b : Bool). one_if (b && p x)) e in
    omega (arith, kept, one, rest, count_by-cons p x (filter q xs), count_by-cons (λ y. q y && p y) x xs)
filter-step p q x xs false e rest =
    let kept : count_by p (filter q (x ∷ xs)) ≡ count_by p (filter q xs) = ap (λ (b : Bool). count_by p (cond b (x ∷ filter q xs) (filter q xs))) e in
    let one : one_if (q x && p x) ≡ one_if false = ap (λ (b : Bool). one_if (b && p x)) e in
    omega (arith, kept, one, rest, count_by-cons (λ y. q y && p y) x xs)

-- those that pass among those that were kept
pub count_by-filter : {K : Type 0} (p q : K → Bool) (xs : List K) → count_by p (filter q xs) ≡ count_by (λ x. q x && p x) xs
count_by-filter p q [] = refl
count_by-filter p q (x ∷ xs) = filter-step p q x xs (q x) refl (count_by-filter p q xs)

others-step : {K : Type 0} (p : K → Bool) (x : K) (xs : List K) (b : Bool) → p x ≡ b
    → count_by p xs + length (filter (λ y. not (p y)) xs) ≡ length xs
    → count_by p (x ∷ xs) + length (filter (λ y. not (p y)) (x ∷ xs)) ≡ length (x ∷ xs)
others-step p x xs true e rest =
    let one : one_if (p x) ≡ one_if true = ap one_if e in
    let kept : length (filter (λ y. not (p y)) (x ∷ xs)) ≡ length (filter (λ y. not (p y)) xs) =
    ap (λ (b : Bool). length (cond (not b) (x ∷ filter (λ y. not (p y)) xs) (filter (λ y. not (p y)) xs))) e in
    omega (arith, kept, one, rest, count_by-cons p x xs)
others-step p x xs false e rest =
    let one : one_if (p x) ≡ one_if false = ap one_if e in
    let kept : length (filter (λ y. not (p y)) (x ∷ xs)) ≡ length (x ∷ filter (λ y. not (p y)) xs) =
    ap (λ (b : Bool). length (cond (not b) (x ∷ filter (λ y. not (p y)) xs) (filter (λ y. not (p y)) xs))) e in
    omega (arith, kept, one, rest, count_by-cons p x xs)

-- those that pass, and those that do not
pub count_by-others : {K : Type 0} (p : K → Bool) (xs : List K) → count_by p xs + length (filter (λ x. not (p x)) xs) ≡ length xs
count_by-others p [] = refl
count_by-others p (x ∷ xs) = others-step p x xs (p x) refl (count_by-others p xs)

-- a number below n + 1 is below n or is n
pub below_more : (x : Bool) (r n m : ℕ) → m ≡ suc n → one_if (x && ltb r m) ≡ one_if (x && ltb r n) + one_if (x && eqb r n)
below_more false r n m e = refl
below_more true r n m e =
    ⊎_elim
    (λ same. omega (arith, ap one_if (lt-ltb r m (omega arith)), ap one_if (le-ltb r n (omega arith)), ap one_if (eq-eqb r n same)))
    (λ other. ⊎_elim
    (λ less. omega (arith, ap one_if (lt-ltb r m (omega arith)), ap one_if (lt-ltb r n less), ap one_if (ne_eqb r n (λ h. omega arith))))
    (λ more. omega (arith, ap one_if (le-ltb r m (omega arith)), ap one_if (le-ltb r n (omega arith)), ap one_if (ne_eqb r n (λ h. omega arith))))
    other)
    (cases_order r n)

-- where all items are counted, the first passes, and all others are counted
first_passes : {K : Type 0} (p : K → Bool) (y : K) (ys : List K) (b : Bool) → p y ≡ b → count_by p (y ∷ ys) ≡ length (y ∷ ys)
    → (p y ≡ true) × (count_by p ys ≡ length ys)
first_passes p y ys true e all = (e, omega (arith, ap one_if e, all, count_by-cons p y ys))
first_passes p y ys false e all =
    absurd (omega (arith, ap one_if e, all, count_by-cons p y ys, count_by-le-length p ys))

-- where all items are counted, each passes
pub passes_all : {K : Type 0} (p : K → Bool) (xs : List K) (i : ℕ) (x : K) → count_by p xs ≡ length xs → slice_get xs i ≡ Some x → p x ≡ true
passes_all p [] i x all here = cc
passes_all p (y ∷ ys) zero x all here =
    let same : y ≡ x = cc in
    ap p (sym same) ∙ (first_passes p y ys (p y) refl all).0
passes_all p (y ∷ ys) (suc i) x all here =
    passes_all p ys i x (first_passes p y ys (p y) refl all).1 here

-- an item that passes is counted
pub counted : {K : Type 0} (p : K → Bool) (xs : List K) (i : ℕ) (x : K) → slice_get xs i ≡ Some x → p x ≡ true → 1 ≤ count_by p xs
counted p [] i x here pass = cc
counted p (y ∷ ys) zero x here pass =
    let same : y ≡ x = cc in
    omega (arith, ap one_if (ap p same ∙ pass), count_by-cons p y ys)
counted p (y ∷ ys) (suc i) x here pass = omega (arith, count_by-cons p y ys, counted p ys i x here pass)

-- where one item passes and it is not the first, it is one of the others
one_later : {K : Type 0} (p : K → Bool) (y : K) (ys : List K) (b : Bool) → p y ≡ b → count_by p (y ∷ ys) ≡ 1 → 1 ≤ count_by p ys
    → count_by p ys ≡ 1
one_later p y ys true e one some = absurd (omega (arith, ap one_if e, one, some, count_by-cons p y ys))
one_later p y ys false e one some = omega (arith, ap one_if e, one, some, count_by-cons p y ys)

-- where one item passes, two that pass stand at one position
pub one_position : {K : Type 0} (p : K → Bool) (xs : List K) (i j : ℕ) (x y : K) → count_by p xs ≡ 1
    → slice_get xs i ≡ Some x → p x ≡ true → slice_get xs j ≡ Some y → p y ≡ true → i ≡ j
one_position p [] i j x y one at_i pass_i at_j pass_j = cc
one_position p (z ∷ zs) zero zero x y one at_i pass_i at_j pass_j = refl
one_position p (z ∷ zs) zero (suc j) x y one at_i pass_i at_j pass_j =
    let same : z ≡ x = cc in
    absurd (omega (arith, ap one_if (ap p same ∙ pass_i), one, count_by-cons p z zs, counted p zs j y at_j pass_j))
one_position p (z ∷ zs) (suc i) zero x y one at_i pass_i at_j pass_j =
    let same : z ≡ y = cc in
    absurd (omega (arith, ap one_if (ap p same ∙ pass_j), one, count_by-cons p z zs, counted p zs i x at_i pass_i))
one_position p (z ∷ zs) (suc i) (suc j) x y one at_i pass_i at_j pass_j =
    ap suc (one_position p zs i j x y (one_later p z zs (p z) refl one (counted p zs i x at_i pass_i)) at_i pass_i at_j pass_j)

-- where some item passes, it stands somewhere
abbrev pub Stands : {K : Type 0} → (K → Bool) → List K → Type 0
Stands {K} p xs = (i : ℕ) × (x : K) × (slice_get xs i ≡ Some x) × (p x ≡ true)

stands_first : {K : Type 0} (p : K → Bool) (y : K) (ys : List K) (b : Bool) → p y ≡ b → 1 ≤ count_by p (y ∷ ys)
    → (1 ≤ count_by p ys → Stands p ys) → Stands p (y ∷ ys)
stands_first p y ys true e some later = (0, y, refl, e)
stands_first p y ys false e some later =
    let found = later (omega (arith, ap one_if e, some, count_by-cons p y ys)) in
    (suc found.0, found.1, found.2, found.3)

pub some_position : {K : Type 0} (p : K → Bool) (xs : List K) → 1 ≤ count_by p xs → Stands p xs
some_position p [] some = absurd (omega arith)
some_position p (y ∷ ys) some = stands_first p y ys (p y) refl some (λ h. some_position p ys h)
