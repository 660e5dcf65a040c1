-- How many items lie between two bounds, and what the k-th smallest is to a bound.
use Rattle.std.proofs.Common.{◌≡◌, ℕ, ◌+◌, ◌<◌, ◌≤◌, nat_lt, nat_le, ◌&&◌, cond, List, length, get_or, count_by, All, Contains, ◌-◌, sym, ap, ◌∙◌, arith, ⊎_elim}
use Rattle.std.proofs.lemmas.Bool.{lt-ltb, le-ltb, le-leb, lt-leb, cases_lt, and_from, and_left, and_right}
use Rattle.std.proofs.lemmas.List.Sums.{count_by-le-length, get_or-le-sum_by}
use Rattle.matrix_levels.specs.Numbers.{count_less, count_between, IsSmallest}
use Rattle.matrix_levels.proofs.lemmas.CountLemmas.{count-agree, count-none, count-two}

-- what is less than the higher bound is less than the lower one, or between them
count_less-between : (ys : List ℕ) (v x : ℕ) → v ≤ x → count_less ys x ≡ count_less ys v + count_between ys v x
count_less-between ys v x order =
    count-two (λ z. nat_lt z x) (λ z. nat_lt z v) (λ z. nat_le v z && nat_lt z x) apart ys
  where
    apart : (z : ℕ) → cond (nat_lt z x) 1 0 ≡ cond (nat_lt z v) 1 0 + cond (nat_le v z && nat_lt z x) 1 0
    apart z =
        ⊎_elim
        (λ l. ap {B = ℕ} (λ b. cond b 1 0) (lt-ltb z x (omega (arith, order)))
        ∙ sym (ap (λ b. cond b 1 0 + cond (nat_le v z && nat_lt z x) 1 0) (lt-ltb z v l)
        ∙ ap (λ b. 1 + cond b 1 0) (and_left (nat_le v z) (nat_lt z x) (lt-leb v z l))))
        (λ g. ⊎_elim
        (λ l. ap {B = ℕ} (λ b. cond b 1 0) (lt-ltb z x l)
        ∙ sym (ap (λ b. cond b 1 0 + cond (nat_le v z && nat_lt z x) 1 0) (le-ltb z v g)
        ∙ ap (λ b. 0 + cond b 1 0) (and_from (nat_le v z) (nat_lt z x) (le-leb v z g) (lt-ltb z x l))))
        (λ m. ap {B = ℕ} (λ b. cond b 1 0) (le-ltb z x m)
        ∙ sym (ap (λ b. cond b 1 0 + cond (nat_le v z && nat_lt z x) 1 0) (le-ltb z v g)
        ∙ ap (λ b. 0 + cond b 1 0) (and_right (nat_le v z) (nat_lt z x) (le-ltb z x m))))
        (cases_lt z x))
        (cases_lt z v)

pub count_less-grows : (ys : List ℕ) (v x : ℕ) → v ≤ x → count_less ys v ≤ count_less ys x
count_less-grows ys v x order = omega (arith, count_less-between ys v x order)

-- a range between two bounds, by the counts of both
pub between-is : (ys : List ℕ) (low high : ℕ) → low ≤ high → count_less ys high - count_less ys low ≡ count_between ys low high
between-is ys low high order = omega (arith, count_less-between ys low high order)

pub between-none : (ys : List ℕ) (low high : ℕ) → high ≤ low → 0 ≡ count_between ys low high
between-none ys low high order =
    sym (count-none (λ z. nat_le low z && nat_lt z high) ys
    (λ k h. ⊎_elim
    (λ l. and_left (nat_le low (get_or ys k 0)) (nat_lt (get_or ys k 0) high) (lt-leb low (get_or ys k 0) l))
    (λ g. and_right (nat_le low (get_or ys k 0)) (nat_lt (get_or ys k 0) high) (le-ltb (get_or ys k 0) high (omega (arith, g, order))))
    (cases_lt (get_or ys k 0) low)))

-- an item between them is counted
between-some : (ys : List ℕ) (v x j d : ℕ) → j < length ys → v ≤ get_or ys j d → get_or ys j d < x → 0 < count_between ys v x
between-some ys v x j d inside above below =
    omega (
      arith,
      get_or-le-sum_by (λ z. cond (nat_le v z && nat_lt z x) 1 0) ys j d inside,
      ap {B = ℕ} (λ b. cond b 1 0) (and_from _ _ (le-leb v (get_or ys j d) above) (lt-ltb (get_or ys j d) x below)),
    )

-- at most x is less than the number after x
pub at_most-is : (ys : List ℕ) (x : ℕ) → count_by (λ y. nat_le y x) ys ≡ count_less ys (x + 1)
at_most-is ys x =
    count-agree (λ y. nat_le y x) (λ y. nat_lt y (x + 1))
    (λ y. ⊎_elim
    (λ l. lt-leb y x l ∙ sym (le-ltb y (x + 1) (omega (arith, l))))
    (λ g. le-leb y x g ∙ sym (lt-ltb y (x + 1) (omega (arith, g))))
    (cases_lt x y)) ys

-- where all are less, all are less
pub all-less : (ys : List ℕ) (v n : ℕ) → n ≡ length ys → n ≤ count_less ys v → All (λ y. y < v) ys
all-less ys v n len most = λ k x inside.
    ⊎_elim (λ l. l)
    (λ g. absurd (omega (
      arith,
      len,
      most,
      count_less-between ys v (get_or ys k x + 1) (omega (arith, g)),
      between-some ys v (get_or ys k x + 1) k x inside g (omega arith),
      count_by-le-length (λ y. nat_lt y (get_or ys k x + 1)) ys,
    )))
    (cases_lt (get_or ys k x) v)

-- and where none is, none is
pub none-less : (ys : List ℕ) (v n : ℕ) → n ≡ count_less ys v → n ≡ 0 → All (λ y. v ≤ y) ys
none-less ys v n count none = λ k x inside.
    ⊎_elim
    (λ l. absurd (omega (
      arith,
      count,
      none,
      get_or-le-sum_by (λ z. cond (nat_lt z v) 1 0) ys k x inside,
      ap {B = ℕ} (λ b. cond b 1 0) (lt-ltb (get_or ys k x) v l),
    )))
    (λ g. g)
    (cases_lt (get_or ys k x) v)

-- the number after all that are less than v is the next one
pub next-smallest : (ys : List ℕ) (v k x : ℕ) → k ≡ count_less ys v → IsSmallest ys k x
    → Contains ys x × (v ≤ x) × All (λ y. v ≤ y → x ≤ y) ys
next-smallest ys v k x e s = (s.item, least, none)
  where
    least : v ≤ x
    least =
        ⊎_elim
        (λ l. absurd (omega (arith, e, s.at_most, at_most-is ys x, count_less-grows ys (x + 1) v (omega (arith, l)))))
        (λ g. g)
        (cases_lt x v)

    none : All (λ y. v ≤ y → x ≤ y) ys
    none = λ j d inside above.
        ⊎_elim
        (λ l. absurd (omega (arith, e, s.less, count_less-between ys v x least, between-some ys v x j d inside above l)))
        (λ g. g)
        (cases_lt (get_or ys j d) x)

-- the last of those that are less than v is the previous one
pub previous-smallest : (ys : List ℕ) (v k x : ℕ) → k + 1 ≡ count_less ys v → IsSmallest ys k x
    → Contains ys x × (x < v) × All (λ y. y < v → y ≤ x) ys
previous-smallest ys v k x e s = (s.item, less, none)
  where
    less : x < v
    less =
        ⊎_elim
        (λ l. l)
        (λ g. absurd (omega (arith, e, s.less, count_less-grows ys v x g)))
        (cases_lt x v)

    none : All (λ y. y < v → y ≤ x) ys
    none = λ j d inside below.
        ⊎_elim
        (λ l. absurd (omega (
          arith,
          e,
          s.at_most,
          at_most-is ys x,
          count_less-between ys (x + 1) v (omega (arith, less)),
          between-some ys (x + 1) v j d inside (omega (arith, l)) below,
        )))
        (λ g. g)
        (cases_lt x (get_or ys j d))
