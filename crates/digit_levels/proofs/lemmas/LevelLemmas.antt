-- What the digits of a level in memory say of the numbers.
use Rattle.std.proofs.Common.{◌≡◌, ℕ, ◌+◌, ◌-◌, ◌*◌, ◌/◌, ◌%◌, ◌^◌, ◌<◌, ◌≤◌, ◌==◌, Bool, true, List, [], ◌∷◌, length, map, take, get_or, cond, count_by, All, refl, sym, ap, ◌∙◌, subst, arith}
use Rattle.std.proofs.lemmas.List.{get_or-map, take-map}
use Rattle.std.proofs.lemmas.Nat.{pow-add}
use Rattle.std.proofs.lemmas.List.Sums.{sum_by-cons}
use Rattle.std.proofs.Math.Nat.{div-eq_of_lt, div-one, pow-le-pow_right}
use Rattle.digits.specs.Digits.{digit_from, digits_before}
use Rattle.digits.specs.Tables.{DigitLists, digits_in, HasDigitSizes, HasDigitTables}
use Rattle.digits.proofs.lemmas.TableLemmas.{item-digits_in}
use Rattle.digit_levels.specs.Levels.{dealt_position, has_quad, levels_for, quad_level, quad_level_position, quad_position}
use Rattle.digit_levels.specs.Matrix.{AreDigitLevelsOf, DigitMatrix, height, level_lists}
use Rattle.digit_levels.proofs.lemmas.DealLemmas.{dealt-inside, dealt_position-inside}
use Rattle.digit_levels.proofs.lemmas.WalkLemmas.{has-own, length-quad_level, prefix-more, quad-few, quad_level_position-item, quad_level_position-more}

-- ---- digits of a list

pub count-map : (f : ℕ → ℕ) (q : ℕ → Bool) (ys : List ℕ) → count_by q (map f ys) ≡ count_by (λ y. q (f y)) ys
count-map f q [] = refl
count-map f q (y ∷ ys) =
    sum_by-cons (λ z. cond (q z) 1 0) (f y) (map f ys)
    ∙ ap (λ n. cond (q (f y)) 1 0 + n) (count-map f q ys)
    ∙ sym (sum_by-cons (λ z. cond (q (f z)) 1 0) y ys)

pub digits-counted : (k d : ℕ) (ys : List ℕ) (p : ℕ) → digits_before d (map (digit_from k) ys) p ≡ count_by (has_quad k d) (take p ys)
unfolding digits_before
digits-counted k d ys p = ap (count_by (λ x. x == d)) (take-map (digit_from k) p ys) ∙ count-map (digit_from k) (λ x. x == d) (take p ys)

-- ---- numbers

-- numbers of w bits have no more digits than there are levels
pub fits-height : (w x : ℕ) → x < 2 ^ w → x < 2 ^ (2 * levels_for w)
fits-height w x small = omega (arith, pow-le-pow_right {n = 2} (omega arith) (let most : w ≤ 2 * levels_for w = omega arith in most))

pub all-fit-height : (w : ℕ) (xs : List ℕ) → All (λ x. x < 2 ^ w) xs → All (λ x. x < 2 ^ (2 * levels_for w)) xs
all-fit-height w xs fit = λ i d inside. fits-height w _ (fit i d inside)

-- a number of some digits and one more
pub digits-fit : (found digit d : ℕ) → found < 2 ^ (2 * d) → digit < 4 → 4 * found + digit < 2 ^ (2 * (d + 1))
digits-fit found digit d small few = let e : 2 * (d + 1) ≡ 2 * d + 2 = omega arith in omega (arith, ap (λ n. 2 ^ n) e, pow-two (2 * d))
  where
    pow-two : (n : ℕ) → 2 ^ (n + 2) ≡ 4 * 2 ^ n
    pow-two n = omega (arith, pow-add 2 n 2)

-- ---- a level

module _ (xs : List ℕ) (m : DigitMatrix) (levels : AreDigitLevelsOf xs m) (d : ℕ) (less : d < height m) where
  abbrev k : ℕ
  k = quad_position (height m) d

  abbrev ys : List ℕ
  ys = quad_level xs (height m) d

  pub level-len : length (quad_level xs (height m) d) ≡ m.len
  level-len = length-quad_level xs (height m) d ∙ sym levels.count

  -- the digit of an item
  pub level-digit : (p r : ℕ) → p < m.len → r ≡ get_or (digits_in (level_lists m d)) p 0
      → r ≡ digit_from (quad_position (height m) d) (get_or (quad_level xs (height m) d) p 0)
  level-digit p r inside is =
      is ∙ ap (λ l. get_or l p 0) (levels.levels d less).digits
      ∙ get_or-map (digit_from k) ys p 0 0 (omega (arith, level-len, inside))

  -- where it goes
  pub level-moved : (e p n r : ℕ) → e < 4 → n ≡ get_or m.lesser (d * 4 + e) 0 → r ≡ digits_before e (digits_in (level_lists m d)) p
      → n + r ≡ dealt_position (quad_position (height m) d) e (quad_level xs (height m) d) p
  unfolding dealt_position
  level-moved e p n r few lesser rank =
      omega (
        arith,
        lesser,
        (levels.levels d less).lesser e few,
        rank,
        ap (λ l. digits_before e l p) (levels.levels d less).digits,
        digits-counted k e ys p,
      )

  -- and it stands inside
  pub level-inside : (e p : ℕ) → e < 4 → dealt_position (quad_position (height m) d) e (quad_level xs (height m) d) p ≤ m.len
  level-inside e p few = omega (arith, dealt_position-inside k e few ys p, level-len)

  pub level-item-inside : (e p : ℕ) → p < m.len → e ≡ digit_from (quad_position (height m) d) (get_or (quad_level xs (height m) d) p 0)
      → dealt_position (quad_position (height m) d) e (quad_level xs (height m) d) p < m.len
  level-item-inside e p inside is =
      let own : has_quad k e (get_or ys p 0) ≡ true = ap (λ f. has_quad k f (get_or ys p 0)) is ∙ has-own k (get_or ys p 0) in
      omega (arith, dealt-inside k e (omega (arith, is, quad-few k (get_or ys p 0))) ys p (omega (arith, level-len, inside)) own, level-len)

  -- so it is by the digits that a source has
  module _ (lists : DigitLists) (same : lists ≡ level_lists m d) where
    pub step-digit : (p e : ℕ) → p < m.len → e ≡ get_or (digits_in lists) p 0
        → e ≡ digit_from (quad_position (height m) d) (get_or (quad_level xs (height m) d) p 0)
    step-digit p e inside is = level-digit p e inside (is ∙ ap (λ (l : DigitLists). get_or (digits_in l) p 0) same)

    pub step-position : (p e n r t : ℕ) → e < 4 → n ≡ get_or m.lesser (d * 4 + e) 0
        → (HasDigitTables lists → r ≡ digits_before e (digits_in lists) p) → t ≡ (n + r) % 2 ^ 64 → m.len < 2 ^ 64
        → t ≡ dealt_position (quad_position (height m) d) e (quad_level xs (height m) d) p
    step-position p e n r t few lesser rank sum small =
        let right = subst HasDigitTables (sym same) (levels.levels d less).tables in
        let at = rank right ∙ ap (λ (l : DigitLists). digits_before e (digits_in l) p) same in
        omega (arith, level-moved e p n r few lesser at, level-inside e p few, sum, small)

-- a digit of lines is less than 4
pub line-digit-few : (lists : DigitLists) (p e : ℕ) → HasDigitSizes lists → p < lists.len → e ≡ get_or (digits_in lists) p 0 → e < 4
line-digit-few lists p e sizes inside is = omega (arith, is, item-digits_in lists p sizes inside)

-- ---- an item on its way

-- item i stands at position p of level d, and n has its first d digits
pub record IsAtQuadLevel (xs : List ℕ) (h d i p n : ℕ) : Type 0 where
  pub position : p ≡ quad_level_position xs h (get_or xs i 0) d i
  pub digits : n ≡ get_or xs i 0 / 2 ^ (2 * (h - d))

pub at-first : (xs : List ℕ) (w i : ℕ) → All (λ x. x < 2 ^ w) xs → i < length xs → IsAtQuadLevel xs (levels_for w) 0 i i 0
unfolding quad_level_position
at-first xs w i fit inside =
    let h = levels_for w in
    let all : 2 * (h - 0) ≡ 2 * h = omega arith in
    record {
      position = refl;
      digits = sym (ap (λ n. get_or xs i 0 / 2 ^ n) all ∙ div-eq_of_lt (fits-height w (get_or xs i 0) (fit i 0 inside)));
    }

pub at-more : (xs : List ℕ) (h d i p n q e : ℕ) → d < h → i < length xs → IsAtQuadLevel xs h d i p n
    → e ≡ digit_from (quad_position h d) (get_or (quad_level xs h d) p 0)
    → q ≡ dealt_position (quad_position h d) e (quad_level xs h d) p → IsAtQuadLevel xs h (d + 1) i q (4 * n + e)
at-more xs h d i p n q e less inside at digit moves =
    let k = quad_position h d in
    let x = get_or xs i 0 in
    let stands = quad_level_position-item xs h x d i inside refl in
    let item : get_or (quad_level xs h d) p 0 ≡ x = ap (λ j. get_or (quad_level xs h d) j 0) at.position ∙ stands.1 in
    let own : e ≡ digit_from k x = digit ∙ ap (digit_from k) item in
    let here : 2 * (h - d) ≡ k + 2 = omega arith in
    let there : k ≡ 2 * (h - (d + 1)) = omega arith in
    record {
      position =
          moves
          ∙ ap (λ f. dealt_position k f (quad_level xs h d) p) own
          ∙ ap (dealt_position k (digit_from k x) (quad_level xs h d)) at.position
          ∙ sym (quad_level_position-more xs h x d i);
      digits =
          let first : n ≡ x / 2 ^ (k + 2) = at.digits ∙ ap (λ j. x / 2 ^ j) here in
          let sum : 4 * n + e ≡ x / 2 ^ k = omega (arith, first, own, prefix-more k x) in
          sum ∙ ap (λ j. x / 2 ^ j) there;
    }

pub at-last : (xs : List ℕ) (h d i p n : ℕ) → d ≡ h → IsAtQuadLevel xs h d i p n → n ≡ get_or xs i 0
at-last xs h d i p n is at =
    let none : 2 * (h - d) ≡ 0 = omega arith in
    at.digits ∙ ap (λ j. get_or xs i 0 / 2 ^ j) none ∙ div-one (get_or xs i 0)
