-- Items and numbers on their way from level to level, in memory that may hold anything.
use Rattle.std.proofs.Common.{◌≡◌, ℕ, ◌+◌, ◌*◌, ◌^◌, ◌<◌, ◌≤◌, ◌==◌, Option, Some, List, length, take, get_or, refl, sym, ap, ◌∙◌, arith}
use Rattle.std.proofs.Math.Nat.{pow-le-pow_right}
use Rattle.std.proofs.lemmas.List.{length-take}
use Rattle.std.proofs.lemmas.List.Sums.{count_by-le-length}
use Rattle.std.proofs.lemmas.Option.{same_Some}
use Rattle.digits.specs.Digits.{digit_from}
use Rattle.digit_levels.specs.Levels.{dealt_position, quad_level, quad_level_position, quad_position}
use Rattle.digit_levels.specs.Matrix.{AreDigitLevelsOf, DigitMatrix, height}
use Rattle.digit_levels.proofs.lemmas.LevelLemmas.{IsAtQuadLevel, all-fit-height, at-first, at-last, at-more, digits-fit, fits-height}
use Rattle.digit_levels.proofs.lemmas.WalkLemmas.{quad_level_position-more, rank-is}
use Rattle.matrix_levels.specs.Numbers.{occurrences_before}

-- an item stands at position p of level d, inside, and n has d digits; in levels of numbers it is item i with its digits
pub record IsFollowed (m : DigitMatrix) (i d p n : ℕ) : Type 0 where
  pub inside : p < m.len
  pub small : n < 2 ^ (2 * d)
  pub item : (xs : List ℕ) → AreDigitLevelsOf xs m → IsAtQuadLevel xs (height m) d i p n

within : (xs : List ℕ) (m : DigitMatrix) (i : ℕ) → AreDigitLevelsOf xs m → i < m.len → i < length xs
within xs m i levels inside = omega (arith, levels.count, inside)

pub followed-first : (m : DigitMatrix) (i : ℕ) → i < m.len → IsFollowed m i 0 i 0
followed-first m i inside =
    record {
      inside = inside;
      small = omega arith;
      item = λ xs levels. at-first xs m.width i levels.fit (within xs m i levels inside);
    }

pub followed-more : (m : DigitMatrix) (i d p n q e : ℕ) → d < height m → i < m.len → IsFollowed m i d p n → e < 4 → q < m.len
    → ((xs : List ℕ) → AreDigitLevelsOf xs m → (e ≡ digit_from (quad_position (height m) d) (get_or (quad_level xs (height m) d) p 0))
    × (q ≡ dealt_position (quad_position (height m) d) e (quad_level xs (height m) d) p))
    → IsFollowed m i (d + 1) q (4 * n + e)
followed-more m i d p n q e less inside f few to step =
    record {
      inside = to;
      small = digits-fit n e d f.small few;
      item = λ xs levels.
          at-more xs (height m) d i p n q e less (within xs m i levels inside) (f.item xs levels) (step xs levels).0 (step xs levels).1;
    }

pub followed-last : (m : DigitMatrix) (i d p n : ℕ) → d ≡ height m → IsFollowed m i d p n → (xs : List ℕ) → AreDigitLevelsOf xs m
    → Some n ≡ Some (get_or xs i 0)
followed-last m i d p n is f xs levels = ap (λ k. Some k) (at-last xs (height m) d i p n is (f.item xs levels))

-- the digits so far and one more fit into 64 bits
pub followed-fits : (m : DigitMatrix) (i d p n e : ℕ) → d < 32 → IsFollowed m i d p n → e < 4 → 4 * n + e < 2 ^ 64
followed-fits m i d p n e less f few =
    omega (arith, digits-fit n e d f.small few, pow-le-pow_right {n = 2} (omega arith) (let most : 2 * (d + 1) ≤ 64 = omega arith in most))

-- two positions of a level, inside; in levels of numbers, where number v stands from the indices 0 and e on
pub record AreOnTheWay (m : DigitMatrix) (v e d first last : ℕ) : Type 0 where
  pub first_inside : first ≤ m.len
  pub last_inside : last ≤ m.len
  pub first_is : (xs : List ℕ) → AreDigitLevelsOf xs m → first ≡ quad_level_position xs (height m) v d 0
  pub last_is : (xs : List ℕ) → AreDigitLevelsOf xs m → last ≡ quad_level_position xs (height m) v d e

pub way-first : (m : DigitMatrix) (v e : ℕ) → e ≤ m.len → AreOnTheWay m v e 0 0 e
unfolding quad_level_position
way-first m v e inside =
    record { first_inside = omega arith; last_inside = inside; first_is = λ xs levels. refl; last_is = λ xs levels. refl }

moved : (xs : List ℕ) (h v d i p q e : ℕ) → p ≡ quad_level_position xs h v d i → e ≡ digit_from (quad_position h d) v
    → Some q ≡ Some (dealt_position (quad_position h d) e (quad_level xs h d) p) → q ≡ quad_level_position xs h v (d + 1) i
moved xs h v d i p q e at digit moves =
    let k = quad_position h d in
    same_Some _ _ moves
    ∙ ap (λ f. dealt_position k f (quad_level xs h d) p) digit
    ∙ ap (dealt_position k (digit_from k v) (quad_level xs h d)) at
    ∙ sym (quad_level_position-more xs h v d i)

pub way-more : (m : DigitMatrix) (v e d first last next after digit : ℕ) → AreOnTheWay m v e d first last
    → digit ≡ digit_from (quad_position (height m) d) v → next ≤ m.len → after ≤ m.len
    → ((xs : List ℕ) → AreDigitLevelsOf xs m → Some next ≡ Some (dealt_position (quad_position (height m) d) digit (quad_level xs (height m) d) first))
    → ((xs : List ℕ) → AreDigitLevelsOf xs m → Some after ≡ Some (dealt_position (quad_position (height m) d) digit (quad_level xs (height m) d) last))
    → AreOnTheWay m v e (d + 1) next after
way-more m v e d first last next after digit way is first_inside last_inside one two =
    record {
      first_inside = first_inside;
      last_inside = last_inside;
      first_is = λ xs levels. moved xs (height m) v d 0 first next digit (way.first_is xs levels) is (one xs levels);
      last_is = λ xs levels. moved xs (height m) v d e last after digit (way.last_is xs levels) is (two xs levels);
    }

pub way-last : (m : DigitMatrix) (v e d first last : ℕ) → d ≡ height m → AreOnTheWay m v e d first last → (xs : List ℕ) → AreDigitLevelsOf xs m
    → ◌≡◌ {A = Option (ℕ × ℕ)} (Some (first, last))
    (Some (quad_level_position xs (height m) v (height m) 0, quad_level_position xs (height m) v (height m) e))
way-last m v e d first last is way xs levels =
    let h = height m in
    let start = way.first_is xs levels ∙ ap (λ n. quad_level_position xs h v n 0) is in
    let end = way.last_is xs levels ∙ ap (λ n. quad_level_position xs h v n e) is in
    let both : ◌≡◌ {A = ℕ × ℕ} (first, last) (quad_level_position xs h v h 0, quad_level_position xs h v h e) =
    λ i. (start i, end i) in
    ap (λ (p : ℕ × ℕ). Some p) both

-- so they are as far apart as the number stands often among the first
pub ranked : (xs : List ℕ) (m : DigitMatrix) → AreDigitLevelsOf xs m → (v e first last : ℕ) → v < 2 ^ m.width → e ≤ m.len
    → ◌≡◌ {A = Option (ℕ × ℕ)} (Some (first, last))
    (Some (quad_level_position xs (height m) v (height m) 0, quad_level_position xs (height m) v (height m) e))
    → (first + occurrences_before xs v e ≡ last) × (occurrences_before xs v e ≤ e)
ranked xs m levels v e first last small inside is =
    let h = height m in
    let both = same_Some _ _ is in
    let one : first ≡ quad_level_position xs h v h 0 = ap (λ (p : ℕ × ℕ). p.0) both in
    let two : last ≡ quad_level_position xs h v h e = ap (λ (p : ℕ × ℕ). p.1) both in (
      omega (
        arith,
        one,
        two,
        rank-is xs h v (all-fit-height m.width xs levels.fit) (fits-height m.width v small) e (omega (arith, levels.count, inside)),
      ),
      omega (arith, count_by-le-length (λ x. x == v) (take e xs), length-take e xs),
    )
