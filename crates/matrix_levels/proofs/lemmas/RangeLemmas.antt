-- How many of a range begin with less, and which of them is the one after so many.
use Rattle.std.proofs.Common.{◌≡◌, ℕ, suc, ◌+◌, ◌-◌, ◌*◌, ◌/◌, ◌^◌, ◌<◌, ◌≤◌, ◌==◌, nat_lt, nat_le, Bool, true, false, cond, List, [], ◌∷◌, length, get_or, count_by, slice_range, All, Contains, sym, ap, ◌∙◌, subst, arith, add-one, ◌⊎◌, ⊎_elim}
use Rattle.std.proofs.lemmas.Bool.{eqb-true, eq-eqb, ne_eqb, lt-ltb, le-ltb, le-leb, lt-leb, cases_lt, cases_order, cases_Bool, true≢false, false≢true}
use Rattle.std.proofs.lemmas.List.Sums.{length-filter, sum_by-cons}
use Rattle.std.proofs.Math.Nat.{div-one, pow-succ'}
use Rattle.bit_lists.specs.Bits.{digit}
use Rattle.matrix_levels.specs.Levels.{level, partition_position, has_prefix, has_lesser_prefix}
use Rattle.matrix_levels.specs.Numbers.{count_less, IsSmallest}
use Rattle.matrix_levels.proofs.lemmas.ColumnLemmas.{length-level}
use Rattle.matrix_levels.proofs.lemmas.PartLemmas.{moved-both}
use Rattle.matrix_levels.proofs.lemmas.PrefixLemmas.{prefix-more, with_digit, IsPrefixRange, IsPrefixRange-next, IsPrefixRange-last, shr-more}
use Rattle.matrix_levels.proofs.lemmas.CountLemmas.{count-none, count-all, count-agree, count-two, length-range, get_or-range}

-- ---- less by one digit more

half-less-zero : (X h : ℕ) → nat_lt X (with_digit h false) ≡ nat_lt (X / 2) h
half-less-zero X h =
    ⊎_elim
    (λ l. lt-ltb X (2 * h + 0) (omega arith) ∙ sym (lt-ltb (X / 2) h l))
    (λ g. le-ltb X (2 * h + 0) (omega arith) ∙ sym (le-ltb (X / 2) h g))
    (cases_lt (X / 2) h)

less-or-zero : (X h : ℕ) → cond (nat_lt X (2 * h + 1)) 1 0 ≡ cond (nat_lt X (2 * h + 0)) 1 0 + cond (X == 2 * h + 0) 1 0
less-or-zero X h =
    ⊎_elim
    (λ e. ap {B = ℕ} (λ b. cond b 1 0) (lt-ltb X (2 * h + 1) (omega arith))
    ∙ sym (ap (λ b. cond b 1 0 + cond (X == 2 * h + 0) 1 0) (le-ltb X (2 * h + 0) (omega arith))
    ∙ ap (λ b. 0 + cond b 1 0) (eq-eqb X (2 * h + 0) e)))
    (⊎_elim
    (λ l. ap {B = ℕ} (λ b. cond b 1 0) (lt-ltb X (2 * h + 1) (omega arith))
    ∙ sym (ap (λ b. cond b 1 0 + cond (X == 2 * h + 0) 1 0) (lt-ltb X (2 * h + 0) l)
    ∙ ap (λ b. 1 + cond b 1 0) (ne_eqb X (2 * h + 0) (λ e. absurd (omega arith)))))
    (λ g. ap {B = ℕ} (λ b. cond b 1 0) (le-ltb X (2 * h + 1) (omega arith))
    ∙ sym (ap (λ b. cond b 1 0 + cond (X == 2 * h + 0) 1 0) (le-ltb X (2 * h + 0) (omega arith))
    ∙ ap (λ b. 0 + cond b 1 0) (ne_eqb X (2 * h + 0) (λ e. absurd (omega arith))))))
    (cases_order X (2 * h + 0))

-- with the digit 0 none more are less, with the digit 1 those with the digit 0
less-zero : (b h : ℕ) (ys : List ℕ) → count_by (has_lesser_prefix b (with_digit h false)) ys ≡ count_by (has_lesser_prefix (suc b) h) ys
less-zero b h ys =
    count-agree (has_lesser_prefix b (with_digit h false)) (has_lesser_prefix (suc b) h)
    (λ x. half-less-zero (x / 2 ^ b) h ∙ ap (λ k. nat_lt k h) (shr-more x b)) ys

less-one : (b h : ℕ) (ys : List ℕ) → count_by (has_lesser_prefix b (with_digit h true)) ys
    ≡ count_by (has_lesser_prefix (suc b) h) ys + count_by (has_prefix b (with_digit h false)) ys
less-one b h ys =
    count-two (has_lesser_prefix b (with_digit h true)) (has_lesser_prefix b (with_digit h false)) (has_prefix b (with_digit h false))
    (λ x. less-or-zero (x / 2 ^ b) h) ys
    ∙ ap (λ n. n + count_by (has_prefix b (with_digit h false)) ys) (less-zero b h ys)

-- ---- one level on

module _ (xs : List ℕ) (w d h : ℕ) (ys : List ℕ) (f l : ℕ) (less : d < w) (n : IsPrefixRange xs w d h ys f l) where
  width : w - d ≡ suc (w - (d + 1))
  width = omega arith

  -- how many of a range have a digit
  pub range-count : (v : Bool) → partition_position (w - 1 - d) v (level xs w d) l - partition_position (w - 1 - d) v (level xs w d) f
      ≡ count_by (has_prefix (w - (d + 1)) (with_digit h v)) ys
  range-count v =
      let next = IsPrefixRange-next xs w d h ys f l v less n in
      sym (length-range (level xs w (d + 1)) _ _ next.order (omega (arith, next.inside, length-level xs w (d + 1))))
      ∙ ap length next.items
      ∙ length-filter (has_prefix (w - (d + 1)) (with_digit h v)) ys

  pub less-next-zero : count_by (has_lesser_prefix (w - (d + 1)) (with_digit h false)) ys ≡ count_by (has_lesser_prefix (w - d) h) ys
  less-next-zero = less-zero (w - (d + 1)) h ys ∙ ap (λ k. count_by (has_lesser_prefix k h) ys) (sym width)

  pub less-next-one : count_by (has_lesser_prefix (w - (d + 1)) (with_digit h true)) ys
      ≡ count_by (has_lesser_prefix (w - d) h) ys + (partition_position (w - 1 - d) false (level xs w d) l - partition_position (w - 1 - d) false (level xs w d) f)
  less-next-one =
      less-one (w - (d + 1)) h ys
      ∙ ap (λ k. count_by (has_lesser_prefix k h) ys + count_by (has_prefix (w - (d + 1)) (with_digit h false)) ys) (sym width)
      ∙ ap (λ m. count_by (has_lesser_prefix (w - d) h) ys + m) (sym (range-count false))

-- the count of those less than a number, one level on
module _ (xs : List ℕ) (w d x : ℕ) (ys : List ℕ) (f l : ℕ) (less : d < w) (n : IsPrefixRange xs w d (x / 2 ^ (w - d)) ys f l) (v : Bool) (dig : v ≡ digit x (w - 1 - d)) where
  pub less-number-one : v ≡ true → (z k : ℕ) → z ≡ partition_position (w - 1 - d) false (level xs w d) l - partition_position (w - 1 - d) false (level xs w d) f
      → k ≡ count_by (has_lesser_prefix (w - d) (x / 2 ^ (w - d))) ys → k + z ≡ count_by (has_lesser_prefix (w - (d + 1)) (x / 2 ^ (w - (d + 1)))) ys
  less-number-one one z k zs ks =
      let number : with_digit (x / 2 ^ (w - d)) true ≡ x / 2 ^ (w - (d + 1)) = ap (with_digit (x / 2 ^ (w - d))) (sym one ∙ dig) ∙ prefix-more x w d less in
      omega (arith, zs, ks, less-next-one xs w d (x / 2 ^ (w - d)) ys f l less n, ap (λ h. count_by (has_lesser_prefix (w - (d + 1)) h) ys) number)

  pub less-number-zero : v ≡ false → (k : ℕ)
      → k ≡ count_by (has_lesser_prefix (w - d) (x / 2 ^ (w - d))) ys → k ≡ count_by (has_lesser_prefix (w - (d + 1)) (x / 2 ^ (w - (d + 1)))) ys
  less-number-zero off k ks =
      let number : with_digit (x / 2 ^ (w - d)) false ≡ x / 2 ^ (w - (d + 1)) = ap (with_digit (x / 2 ^ (w - d))) (sym off ∙ dig) ∙ prefix-more x w d less in
      ks ∙ sym (less-next-zero xs w d (x / 2 ^ (w - d)) ys f l less n) ∙ ap (λ h. count_by (has_lesser_prefix (w - (d + 1)) h) ys) number

-- the number sought among those that begin with the digits so far, one level on
module _ (xs : List ℕ) (w d h : ℕ) (ys : List ℕ) (f l left k z : ℕ) (less : d < w) (n : IsPrefixRange xs w d h ys f l)
    (zs : z ≡ partition_position (w - 1 - d) false (level xs w d) l - partition_position (w - 1 - d) false (level xs w d) f)
    (sum : left + count_by (has_lesser_prefix (w - d) h) ys ≡ k) (some : left < l - f) where
  pub sought-one : z ≤ left → (left - z) + count_by (has_lesser_prefix (w - (d + 1)) (with_digit h true)) ys ≡ k
  sought-one past = omega (arith, zs, sum, past, less-next-one xs w d h ys f l less n)

  pub sought-zero : left + count_by (has_lesser_prefix (w - (d + 1)) (with_digit h false)) ys ≡ k
  sought-zero = omega (arith, sum, less-next-zero xs w d h ys f l less n)

  pub some-one : z ≤ left → left - z < partition_position (w - 1 - d) true (level xs w d) l - partition_position (w - 1 - d) true (level xs w d) f
  some-one past =
      omega (arith, zs, past, some, moved-both (w - 1 - d) (level xs w d) f l n.order (omega (arith, n.inside, length-level xs w d)))

  pub some-zero : left < z → left < partition_position (w - 1 - d) false (level xs w d) l - partition_position (w - 1 - d) false (level xs w d) f
  some-zero before = omega (arith, zs, before)

-- the number sought begins with the digits h of d levels, and is the one after left among those of the range that do
pub record IsQuantilePrefix (xs : List ℕ) (w d h : ℕ) (ys : List ℕ) (f l left k : ℕ) : Type 0 where
  pub range : IsPrefixRange xs w d h ys f l
  pub less : left + count_by (has_lesser_prefix (w - d) h) ys ≡ k
  pub some : left < l - f
  pub small : h < 2 ^ d

pub IsQuantilePrefix-next : (xs : List ℕ) (w d h : ℕ) (ys : List ℕ) (f l left k z h' f' l' left' : ℕ) (v : Bool) → d < w → IsQuantilePrefix xs w d h ys f l left k
    → z ≡ partition_position (w - 1 - d) false (level xs w d) l - partition_position (w - 1 - d) false (level xs w d) f
    → h' ≡ with_digit h v → f' ≡ partition_position (w - 1 - d) v (level xs w d) f → l' ≡ partition_position (w - 1 - d) v (level xs w d) l
    → ((v ≡ true) × (z ≤ left) × (left' ≡ left - z)) ⊎ ((v ≡ false) × (left < z) × (left' ≡ left))
    → IsQuantilePrefix xs w (d + 1) h' ys f' l' left' k
IsQuantilePrefix-next xs w d h ys f l left k z h' f' l' left' v less s zs eh ef el way =
    let A : ℕ → Type 0 = λ x. IsQuantilePrefix xs w (d + 1) x ys f' l' left' k in
    let B : ℕ → Type 0 = λ x. IsQuantilePrefix xs w (d + 1) (with_digit h v) ys x l' left' k in
    let C : ℕ → Type 0 = λ x. IsQuantilePrefix xs w (d + 1) (with_digit h v) ys (partition_position (w - 1 - d) v (level xs w d) f) x left' k in
    subst A (sym eh) (subst B (sym ef) (subst C (sym el) (by v way)))
  where
    double : 2 ^ (d + 1) ≡ 2 * 2 ^ d
    double = ap (λ n. 2 ^ n) (add-one d) ∙ pow-succ' 2 d

    by : (v : Bool) → ((v ≡ true) × (z ≤ left) × (left' ≡ left - z)) ⊎ ((v ≡ false) × (left < z) × (left' ≡ left))
        → IsQuantilePrefix xs w (d + 1) (with_digit h v) ys (partition_position (w - 1 - d) v (level xs w d) f) (partition_position (w - 1 - d) v (level xs w d) l) left' k
    by true way =
        ⊎_elim
        (λ t. record {
          range = IsPrefixRange-next xs w d h ys f l true less s.range;
          less = omega (arith, t.2, sought-one xs w d h ys f l left k z less s.range zs s.less s.some t.1);
          some = omega (arith, t.2, some-one xs w d h ys f l left k z less s.range zs s.less s.some t.1);
          small = omega (arith, double, s.small);
        })
        (λ t. absurd (true≢false t.0))
        way
    by false way =
        ⊎_elim
        (λ t. absurd (false≢true t.0))
        (λ t. record {
          range = IsPrefixRange-next xs w d h ys f l false less s.range;
          less = omega (arith, t.2, sought-zero xs w d h ys f l left k z less s.range zs s.less s.some);
          some = omega (arith, t.2, some-zero xs w d h ys f l left k z less s.range zs s.less s.some t.1);
          small = omega (arith, double, s.small);
        })
        way

-- at first none begin with less
pub less-first : (w h : ℕ) (ys : List ℕ) → h ≡ 0 → 0 ≡ count_by (has_lesser_prefix (w - 0) h) ys
less-first w h ys none = sym (count-none (has_lesser_prefix (w - 0) h) ys (λ k _. le-ltb _ _ (omega (arith, none))))

-- at last those that are less
pub less-last : (w d h : ℕ) (ys : List ℕ) → d ≡ w → count_by (has_lesser_prefix (w - d) h) ys ≡ count_less ys h
less-last w d h ys e =
    let none : w - d ≡ 0 = omega arith in
    ap (λ k. count_by (has_lesser_prefix k h) ys) none
    ∙ count-agree (has_lesser_prefix 0 h) (λ x. nat_lt x h) (λ x. ap (λ k. nat_lt k h) (div-one x)) ys

-- all of a range whose numbers are too small are less
pub less-all : (ys : List ℕ) (v : ℕ) → ((k : ℕ) → k < length ys → get_or ys k 0 < v) → count_less ys v ≡ length ys
less-all ys v small = count-all (λ x. nat_lt x v) ys (λ k h. lt-ltb _ _ (small k h))

pub less-all-wide : (xs : List ℕ) (w s e v : ℕ) → All (λ x. x < 2 ^ w) xs → s ≤ e → e ≤ length xs → (v < 2 ^ w → ⊥)
    → count_less (slice_range xs s e) v ≡ e - s
less-all-wide xs w s e v fit order inside wide =
    let len = length-range xs s e order inside in
    let high : 2 ^ w ≤ v = ⊎_elim (λ l. absurd (wide l)) (λ g. g) (cases_lt v (2 ^ w)) in
    less-all (slice_range xs s e) v (λ k h.
    let small : k < e - s = omega (arith, len) in
    omega (arith, get_or-range xs s e k small, fit (s + k) 0 (omega arith), high)) ∙ len

-- ---- the k-th smallest

-- at most is less or equal
pub at-most : (x : ℕ) (ys : List ℕ) → count_by (λ y. nat_le y x) ys ≡ count_less ys x + count_by (λ y. y == x) ys
at-most x ys =
    count-two (λ y. nat_le y x) (λ y. nat_lt y x) (λ y. y == x)
    (λ y. ⊎_elim
    (λ e. ap {B = ℕ} (λ b. cond b 1 0) (le-leb y x (omega arith))
    ∙ sym (ap (λ b. cond b 1 0 + cond (y == x) 1 0) (le-ltb y x (omega arith)) ∙ ap (λ b. 0 + cond b 1 0) (eq-eqb y x e)))
    (⊎_elim
    (λ l. ap {B = ℕ} (λ b. cond b 1 0) (le-leb y x (omega arith))
    ∙ sym (ap (λ b. cond b 1 0 + cond (y == x) 1 0) (lt-ltb y x l) ∙ ap (λ b. 1 + cond b 1 0) (ne_eqb y x (λ e. absurd (omega arith)))))
    (λ g. ap {B = ℕ} (λ b. cond b 1 0) (lt-leb y x g)
    ∙ sym (ap (λ b. cond b 1 0 + cond (y == x) 1 0) (le-ltb y x (omega arith)) ∙ ap (λ b. 0 + cond b 1 0) (ne_eqb y x (λ e. absurd (omega arith))))))
    (cases_order y x)) ys

-- what is counted is an item
pub contained : (x : ℕ) (ys : List ℕ) → 0 < count_by (λ y. y == x) ys → Contains ys x
contained x [] some = absurd (omega arith)
contained x (y ∷ ys) some =
    ⊎_elim
    (λ t. (0, omega arith, eqb-true y x t))
    (λ f. let rest = contained x ys (omega (arith, sum_by-cons (λ z. cond (z == x) 1 0) y ys, ap {B = ℕ} (λ b. cond b 1 0) f)) in
    (suc rest.0, omega (arith, rest.1), rest.2))
    (cases_Bool (y == x))

-- the numbers that begin with all its digits are equal to the number
pub equal-last : (xs : List ℕ) (w d h : ℕ) (ys : List ℕ) (f l : ℕ) → d ≡ w → IsPrefixRange xs w d h ys f l
    → l - f ≡ count_by (λ y. y == h) ys
equal-last xs w d h ys f l e n =
    sym (length-range (level xs w w) f l n.order (omega (arith, n.inside, length-level xs w w)))
    ∙ ap length (IsPrefixRange-last xs w d h ys f l e n)
    ∙ length-filter (λ y. y == h) ys

pub smallest : (xs : List ℕ) (w d h : ℕ) (ys : List ℕ) (f l left k : ℕ) → d ≡ w → IsPrefixRange xs w d h ys f l
    → left + count_by (has_lesser_prefix (w - d) h) ys ≡ k → left < l - f → IsSmallest ys k h
smallest xs w d h ys f l left k e n less some =
    let equal = equal-last xs w d h ys f l e n in
    let lower = less-last w d h ys e in
    record {
      item = contained h ys (omega arith);
      less = omega arith;
      at_most = omega (arith, at-most h ys);
    }

-- ---- as a walk has them

-- how many of a range have the digit 0, by a level and positions that are these
pub part-zeros : (xs : List ℕ) (w d f l first last z : ℕ) (ys : List ℕ) → ys ≡ level xs w d → f ≡ first → l ≡ last
    → z ≡ partition_position (w - 1 - d) false ys l - partition_position (w - 1 - d) false ys f
    → z ≡ partition_position (w - 1 - d) false (level xs w d) last - partition_position (w - 1 - d) false (level xs w d) first
part-zeros xs w d f l first last z ys same from to zeros =
    zeros
    ∙ ap (λ m. partition_position (w - 1 - d) false m l - partition_position (w - 1 - d) false m f) same
    ∙ ap (λ n. partition_position (w - 1 - d) false (level xs w d) l - partition_position (w - 1 - d) false (level xs w d) n) from
    ∙ ap (λ n. partition_position (w - 1 - d) false (level xs w d) n - partition_position (w - 1 - d) false (level xs w d) first) to
