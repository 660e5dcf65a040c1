-- From a position of the next level back to where a number came from, by the digits of a level in memory.
use Rattle.std.proofs.Common.{◌≡◌, ℕ, ◌+◌, ◌-◌, ◌*◌, ◌<◌, ◌≤◌, true, List, length, take, get_or, count_by, sym, ap, ◌∙◌, subst, arith, add-one}
use Rattle.std.proofs.lemmas.Bool.{eq-eqb}
use Rattle.std.proofs.lemmas.List.{get_or-map, length-map, take_all}
use Rattle.digits.specs.Digits.{digit_from, digits_before, PicksDigit}
use Rattle.digits.specs.Tables.{digits_in}
use Rattle.digit_levels.specs.Levels.{dealt, has_quad, quad_level, quad_position}
use Rattle.digit_levels.specs.Matrix.{AreDigitLevelsOf, DigitMatrix, height, level_lists}
use Rattle.matrix_levels.specs.Numbers.{PicksItem}
use Rattle.digit_levels.proofs.lemmas.BackLemmas.{after-lesser, before-greater, picked-back}
use Rattle.digit_levels.proofs.lemmas.LevelLemmas.{digits-counted}
use Rattle.digit_levels.proofs.lemmas.WalkLemmas.{has-own, quad-few}

-- the number v, whose digit of level d is e, stands at position p of the level after it, with j such before it; n has the
-- lesser digits
module _ (xs : List ℕ) (m : DigitMatrix) (levels : AreDigitLevelsOf xs m) (d : ℕ) (less : d < height m) (v j p e n : ℕ)
    (picked : PicksItem (quad_level xs (height m) (d + 1)) v j p) (is : e ≡ digit_from (quad_position (height m) d) v)
    (lesser : n ≡ get_or m.lesser (d * 4 + e) 0) where
  abbrev k : ℕ
  k = quad_position (height m) d

  abbrev ys : List ℕ
  ys = quad_level xs (height m) d

  here : PicksItem (dealt (quad_position (height m) d) (quad_level xs (height m) d)) v j p
  unfolding quad_level
  here = let P : ℕ → Type 0 = λ c. PicksItem (quad_level xs (height m) c) v j p in subst P (add-one d) picked

  has : has_quad k e v ≡ true
  has = ap (λ f. has_quad k f v) is ∙ has-own k v

  few : e < 4
  few = omega (arith, is, quad-few k v)

  len : length (digits_in (level_lists m d)) ≡ length ys
  len = ap length (levels.levels d less).digits ∙ length-map ys (digit_from k)

  counted : (q : ℕ) → digits_before e (digits_in (level_lists m d)) q ≡ count_by (has_quad k e) (take q ys)
  counted q = ap (λ l. digits_before e l q) (levels.levels d less).digits ∙ digits-counted k e ys q

  pub back-rank : (n ≤ p) × (p - n < digits_before e (digits_in (level_lists m d)) (length (digits_in (level_lists m d))))
  back-rank =
      let of = (levels.levels d less).lesser e few in
      let all = counted (length (digits_in (level_lists m d))) in
      let whole : take (length (digits_in (level_lists m d))) ys ≡ ys = take_all _ ys (omega (arith, len)) in (
        omega (arith, lesser, of, after-lesser k e few ys v j p here has),
        omega (arith, lesser, of, before-greater k e few ys v j p here has, all, ap (count_by (has_quad k e)) whole),
      )

  pub back-picked : (q r : ℕ) → r ≡ p - n → PicksDigit (digits_in (level_lists m d)) e r q → PicksItem (quad_level xs (height m) d) v j q
  back-picked q r rank digit =
      let within : q < length ys = omega (arith, digit.inside, len) in
      let item = ap (λ l. get_or l q 0) (levels.levels d less).digits ∙ get_or-map (digit_from k) ys q 0 0 within in
      picked-back k e few ys v j p here has q within (eq-eqb _ _ (sym item ∙ digit.digit))
      (omega (arith, counted q, digit.before, rank, lesser, (levels.levels d less).lesser e few))

-- one level further up
pub up-first : (xs : List ℕ) (h v j p : ℕ) → PicksItem (quad_level xs h h) v j p → PicksItem (quad_level xs h (h - 0)) v j p
up-first xs h v j p picked =
    let all : h ≡ h - 0 = omega arith in
    let P : ℕ → Type 0 = λ c. PicksItem (quad_level xs h c) v j p in subst P all picked

pub up-before : (xs : List ℕ) (h v j p d up : ℕ) → up < h → d ≡ h - 1 - up → PicksItem (quad_level xs h (h - up)) v j p
    → PicksItem (quad_level xs h (d + 1)) v j p
up-before xs h v j p d up less is picked =
    let same : h - up ≡ d + 1 = omega arith in
    let P : ℕ → Type 0 = λ c. PicksItem (quad_level xs h c) v j p in subst P same picked

pub up-after : (xs : List ℕ) (h v j p d up : ℕ) → d ≡ h - 1 - up → PicksItem (quad_level xs h d) v j p
    → PicksItem (quad_level xs h (h - (up + 1))) v j p
up-after xs h v j p d up is picked =
    let same : d ≡ h - (up + 1) = omega arith in
    let P : ℕ → Type 0 = λ c. PicksItem (quad_level xs h c) v j p in subst P same picked

pub up-last : (xs : List ℕ) (h v j p up : ℕ) → up ≡ h → PicksItem (quad_level xs h (h - up)) v j p → PicksItem xs v j p
unfolding quad_level
up-last xs h v j p up all picked =
    let none : h - up ≡ 0 = omega arith in
    let P : ℕ → Type 0 = λ c. PicksItem (quad_level xs h c) v j p in subst P none picked
