-- A number of a sequence by the position of its one.
use Rattle.std.proofs.Common.{◌≡◌, ℕ, ◌+◌, ◌-◌, ◌*◌, ◌/◌, ◌<◌, ◌≤◌, Bool, true, false, List, length, get_or, sym, ap, ◌∙◌, arith, ⊎_elim, cond, ◌%◌}
use Rattle.std.proofs.Math.Nat.{mul-le-mul_right}
use Rattle.std.proofs.lemmas.Bool.{cases_lt}
use Rattle.std.proofs.lemmas.List.{get_or_default}
use Rattle.std.proofs.lemmas.Nat.{div-add-mod'}
use Rattle.std.specs.List.{All}
use Rattle.std.specs.List.Sorted.{IsNonDecreasing}
use Rattle.bit_lists.proofs.BitLaws.{equal_items_count_for_one, count_after_item, ones_and_zeros}
use Rattle.bit_lists.specs.Count.{ones_before, IsFirstFrom, Picks}
use Rattle.elias_fano.specs.Low.{Lows, HasFragments}
use Rattle.elias_fano.specs.Parts.{HasFragment}

-- the first one from a position on is picked by the ones before the position
pub first_picked : (b : List Bool) (s p r : ℕ) → IsFirstFrom b true s p → ones_before b s ≡ r → Picks b true r p
first_picked b s p r h before =
    let is : s + (p - s) ≡ p = omega (arith, h.from) in
    let none : ones_before b (s + (p - s)) ≡ ones_before b s =
    equal_items_count_for_one b false s (p - s) (omega (arith, h.from, h.inside)) (λ i from less. h.least i from (omega (arith, less, h.from))) in
    record { inside = h.inside; item = h.is; before = ap (ones_before b) (sym is) ∙ (none ∙ before) }

-- one more stands before the next position
pub ones_after : (b : List Bool) (r p : ℕ) → Picks b true r p → ones_before b (p + 1) ≡ r + 1
ones_after b r p h = count_after_item b true p h.inside ∙ (ap (λ (x : Bool). ones_before b p + cond x 1 0) h.item ∙ ap (λ (n : ℕ). n + 1) h.before)

-- behind the zero with so many zeros before it
pub ones_after_zero : (b : List Bool) (z p : ℕ) → Picks b false z p → ones_before b (p + 1) + z ≡ p
ones_after_zero b z p h =
    let same : ones_before b (p + 1) ≡ ones_before b p =
    count_after_item b true p h.inside ∙ (ap (λ (x : Bool). ones_before b p + cond x 1 0) h.item ∙ (let e : ones_before b p + 0 ≡ ones_before b p = omega arith in e)) in
    omega (arith, same, ones_and_zeros b p (omega (arith, h.inside)), h.before)

-- fragment i of n
pub fragment_of : (low : Lows) (n i : ℕ) → HasFragments low n → i < n → HasFragment low.words i low.width
fragment_of low n i h less = record {
  width = h.width;
  short = omega (arith, h.short, less);
  inside =
      let le : (i + 1) * low.width ≤ n * low.width = mul-le-mul_right low.width (let l : i + 1 ≤ n = omega arith in l) in
      let is : (i + 1) * low.width ≡ i * low.width + low.width = omega arith in
      omega (arith, le, is, h.inside);
}

-- all items are less
pub all_less : (xs : List ℕ) (v n : ℕ) → length xs ≤ n → ((j : ℕ) → j < n → get_or xs j 0 < v) → All (λ x. x < v) xs
all_less xs v n all less i d inside = omega (arith, get_or_default xs i d 0 inside, less i (omega arith))

-- the items up to one that is less
pub less_to : (xs : List ℕ) (v i j : ℕ) → IsNonDecreasing xs → i < length xs → get_or xs i 0 < v → j < i + 1 → get_or xs j 0 < v
less_to xs v i j rising inside less l = omega (arith, rising j i 0 (omega arith) inside)

-- a lesser quotient is of a lesser number
pub less_by_quotient : (a b p : ℕ) → 0 < p → a / p < b / p → a < b
less_by_quotient a b p some l = ⊎_elim
    (λ (less : a < b). less)
    (λ (past : b ≤ a).
    let up : a < (a / p + 1) * p = omega (arith, div-add-mod' a p, mod_below a p some) in
    let m : (a / p + 1) * p ≤ b / p * p = mul-le-mul_right p (let h : a / p + 1 ≤ b / p = omega arith in h) in
    absurd (omega (arith, up, m, div-add-mod' b p)))
    (cases_lt a b)
  where
    mod_below : (a p : ℕ) → 0 < p → a % p < p
    mod_below a p some = omega arith
