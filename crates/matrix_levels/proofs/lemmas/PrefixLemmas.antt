-- Numbers that begin alike: how a range narrows from level to level.
use Rattle.std.proofs.Common.{◌≡◌, ℕ, suc, ◌+◌, ◌-◌, ◌*◌, ◌/◌, ◌%◌, ◌^◌, ◌<◌, ◌≤◌, ◌==◌, Bool, true, false, not, ◌&&◌, if◌then◌else◌, List, length, drop, get_or, filter, slice_range, All, sym, ap, ◌∙◌, arith, ⊎_elim, add-one}
use Rattle.std.proofs.lemmas.Bool.{eq-eqb, ne_eqb, and_from, and_left, and_right}
use Rattle.std.proofs.lemmas.Bool.Decides.{eqb_tells}
use Rattle.std.proofs.lemmas.List.{length-take, get_or-take, get_or-drop}
use Rattle.std.proofs.lemmas.List.Elements.{filter_agree}
use Rattle.std.proofs.lemmas.Nat.{shr-shr, pow_pos}
use Rattle.std.proofs.Math.Nat.{div-eq_of_lt, div-one, div-lt_iff_lt-mul}
use Rattle.bit_lists.specs.Bits.{digit}
use Rattle.matrix_levels.specs.Levels.{has_digit, level, partition_position, has_prefix}
use Rattle.matrix_levels.proofs.lemmas.ColumnLemmas.{length-level}
use Rattle.matrix_levels.proofs.lemmas.FilterLemmas.{filter-filter, filter-all}
use Rattle.matrix_levels.proofs.lemmas.PartLemmas.{range-moved, moved-grows, moved-le}

-- one digit less
pub shr-more : (x b : ℕ) → x / 2 ^ b / 2 ≡ x / 2 ^ (suc b)
shr-more x b = shr-shr x b 1 ∙ ap (λ k. x / 2 ^ k) (add-one b)

-- h with the digit v after it
abbrev pub with_digit : ℕ → Bool → ℕ
with_digit h v = 2 * h + (if v then 1 else 0)

half-one : (X h : ℕ) → (X == 2 * h + 1) ≡ ((X / 2 == h) && (X % 2 == 1))
half-one X h =
    ⊎_elim
    (λ t. ⊎_elim
    (λ u. eq-eqb X (2 * h + 1) (omega (arith, t.1, u.1)) ∙ sym (and_from _ _ t.0 u.0))
    (λ u. ne_eqb X (2 * h + 1) (λ e. u.1 (omega arith)) ∙ sym (and_right _ _ u.0))
    (eqb_tells (X % 2) 1))
    (λ t. ne_eqb X (2 * h + 1) (λ e. t.1 (omega arith)) ∙ sym (and_left _ _ t.0))
    (eqb_tells (X / 2) h)

half-zero : (X h : ℕ) → (X == 2 * h + 0) ≡ ((X / 2 == h) && not (X % 2 == 1))
half-zero X h =
    ⊎_elim
    (λ t. ⊎_elim
    (λ u. ne_eqb X (2 * h + 0) (λ e. absurd (omega (arith, t.1, u.1))) ∙ sym (and_right _ _ (ap not u.0)))
    (λ u. eq-eqb X (2 * h + 0) (omega (arith, t.1, u.1)) ∙ sym (and_from _ _ t.0 (ap not u.0)))
    (eqb_tells (X % 2) 1))
    (λ t. ne_eqb X (2 * h + 0) (λ e. t.1 (omega arith)) ∙ sym (and_left _ _ t.0))
    (eqb_tells (X / 2) h)

-- a number begins with one digit more where it begins so and has the digit
pub begins-more : (b h : ℕ) (v : Bool) (x : ℕ) → has_prefix b (with_digit h v) x ≡ (has_prefix (suc b) h x && has_digit b v x)
begins-more b h true x =
    half-one (x / 2 ^ b) h ∙ ap (λ k. (k == h) && (x / 2 ^ b % 2 == 1)) (shr-more x b)
begins-more b h false x =
    half-zero (x / 2 ^ b) h ∙ ap (λ k. (k == h) && not (x / 2 ^ b % 2 == 1)) (shr-more x b)

-- what of a list begins with one digit more
pub filter-more : (b h : ℕ) (v : Bool) (xs : List ℕ) → filter (has_digit b v) (filter (has_prefix (suc b) h) xs) ≡ filter (has_prefix b (with_digit h v)) xs
filter-more b h v xs = filter-filter (has_digit b v) (has_prefix (suc b) h) (has_prefix b (with_digit h v)) (begins-more b h v) xs

-- positions f and l of level d are the ends of what begins with h in the list ys, in its order
pub record IsPrefixRange (xs : List ℕ) (w d h : ℕ) (ys : List ℕ) (f l : ℕ) : Type 0 where
  pub order : f ≤ l
  pub inside : l ≤ length xs
  pub items : slice_range (level xs w d) f l ≡ filter (has_prefix (w - d) h) ys

-- one level on
pub IsPrefixRange-next : (xs : List ℕ) (w d h : ℕ) (ys : List ℕ) (f l : ℕ) (v : Bool) → d < w → IsPrefixRange xs w d h ys f l
    → IsPrefixRange xs w (d + 1) (with_digit h v) ys (partition_position (w - 1 - d) v (level xs w d) f) (partition_position (w - 1 - d) v (level xs w d) l)
unfolding level
IsPrefixRange-next xs w d h ys f l v less n =
    let b = w - 1 - d in
    let here : w - d ≡ suc b = omega arith in
    let there : b ≡ w - (d + 1) = omega arith in
    record {
      order = moved-grows b v (level xs w d) f l n.order;
      inside = omega (arith, moved-le b v (level xs w d) l, length-level xs w d);
      items =
          ap (λ k. slice_range (level xs w k) (partition_position b v (level xs w d) f) (partition_position b v (level xs w d) l)) (add-one d)
          ∙ next n b here
          ∙ ap (λ k. filter (has_prefix k (with_digit h v)) ys) there;
    }
  where
    next : IsPrefixRange xs w d h ys f l → (b : ℕ) → w - d ≡ suc b
        → slice_range (level xs w (suc d)) (partition_position (w - 1 - d) v (level xs w d) f) (partition_position (w - 1 - d) v (level xs w d) l)
        ≡ filter (has_prefix (w - 1 - d) (with_digit h v)) ys
    next n b here =
        let p = w - 1 - d in
        let same : w - d ≡ suc p = omega arith in
        range-moved p v (level xs w d) f l n.order
        ∙ ap (filter (has_digit p v)) (n.items ∙ ap (λ k. filter (has_prefix k h) ys) same)
        ∙ filter-more p h v ys

-- at first all begin with nothing
pub IsPrefixRange-first : (xs : List ℕ) (w s e : ℕ) → All (λ x. x < 2 ^ w) xs → s ≤ e → e ≤ length xs
    → IsPrefixRange xs w 0 0 (slice_range xs s e) s e
unfolding level
IsPrefixRange-first xs w s e fit order inside =
    let all : w - 0 ≡ w = omega arith in
    record {
      order = order;
      inside = inside;
      items = sym (ap (λ k. filter (has_prefix k 0) (slice_range xs s e)) all ∙ filter-all (has_prefix w 0) (slice_range xs s e) none);
    }
  where
    none : (k : ℕ) → k < length (slice_range xs s e) → has_prefix w 0 (get_or (slice_range xs s e) k 0) ≡ true
    none k h =
        let small : k < e - s = omega (arith, length-take (e - s) (drop s xs)) in
        let at : get_or (slice_range xs s e) k 0 ≡ get_or xs (s + k) 0 = get_or-take (e - s) (drop s xs) k 0 small ∙ get_or-drop s xs k 0 in
        eq-eqb _ _ (ap (λ x. x / 2 ^ w) at ∙ div-eq_of_lt (fit (s + k) 0 (omega arith)))

-- at last all are the number
pub IsPrefixRange-last : (xs : List ℕ) (w d h : ℕ) (ys : List ℕ) (f l : ℕ) → d ≡ w → IsPrefixRange xs w d h ys f l
    → slice_range (level xs w w) f l ≡ filter (λ x. x == h) ys
IsPrefixRange-last xs w d h ys f l e n =
    let none : w - d ≡ 0 = omega arith in
    ap (λ k. slice_range (level xs w k) f l) (sym e)
    ∙ n.items
    ∙ ap (λ k. filter (has_prefix k h) ys) none
    ∙ filter_agree (has_prefix 0 h) (λ x. x == h) (λ x. ap (λ k. k == h) (div-one x)) ys

-- the number without its lowest digits, one digit more
pub prefix-more : (x w d : ℕ) → d < w → with_digit (x / 2 ^ (w - d)) (digit x (w - 1 - d)) ≡ x / 2 ^ (w - (d + 1))
prefix-more x w d less =
    let b = w - 1 - d in
    let here : w - d ≡ suc b = omega arith in
    let there : w - (d + 1) ≡ b = omega arith in
    ap (λ k. with_digit (x / 2 ^ k) (digit x b)) here
    ∙ ap (λ k. with_digit k (digit x b)) (sym (shr-more x b))
    ∙ whole (x / 2 ^ b)
    ∙ ap (λ k. x / 2 ^ k) (sym there)
  where
    whole : (X : ℕ) → with_digit (X / 2) (X % 2 == 1) ≡ X
    whole X =
        ⊎_elim
        (λ t. ap (with_digit (X / 2)) t.0 ∙ omega (arith, t.1))
        (λ t. ap (with_digit (X / 2)) t.0 ∙ omega (arith, t.1))
        (eqb_tells (X % 2) 1)

-- a number with no more than w digits begins with nothing, and only such a one
pub begins-nothing : (x w : ℕ) → x < 2 ^ w → x / 2 ^ w ≡ 0
begins-nothing x w h = div-eq_of_lt h

pub fits-from-nothing : (x w : ℕ) → x / 2 ^ w ≡ 0 → x < 2 ^ w
fits-from-nothing x w h = omega (arith, (div-lt_iff_lt-mul {k = 2 ^ w} {x = x} {y = 1} (pow_pos w)).0 (omega arith))

-- without any digits less a number is itself
pub prefix-all : (x w d : ℕ) → d ≡ w → x / 2 ^ (w - d) ≡ x
prefix-all x w d e =
    let none : w - d ≡ 0 = omega arith in
    ap (λ k. x / 2 ^ k) none ∙ div-one x
