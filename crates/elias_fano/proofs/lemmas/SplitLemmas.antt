-- The search among the low digits of items with the same upper digits.
use Rattle.std.proofs.Common.{◌≡◌, ℕ, ◌+◌, ◌-◌, ◌*◌, ◌^◌, ◌<◌, ◌≤◌, List, length, ⊎_elim, arith}
use Rattle.std.proofs.Math.Nat.{mul-le-mul_right, mul-le-mul_left}
use Rattle.std.proofs.lemmas.Bool.{cases_eq}
use Rattle.bit_lists.specs.Number.{IsFragmentInRange}
use Rattle.elias_fano.specs.Buckets.{Splits}

-- what is before from is less than rest, and what is from from + left on is not
pub record Parting (lows : ℕ → ℕ) (first end rest from left : ℕ) : Type 0 where
  pub begin : first ≤ from
  pub bound : from + left ≤ end
  pub less : (j : ℕ) → first ≤ j → j < from → lows j < rest
  pub at_least : (j : ℕ) → from + left ≤ j → j < end → rest ≤ lows j

-- one test more, of any position among those that are left
module _ (lows : ℕ → ℕ) (first end rest from left : ℕ) (rising : (i j : ℕ) → first ≤ i → i ≤ j → j < end → lows i ≤ lows j)
    (h : Parting lows first end rest from left) (tested : ℕ) (inside : tested < left) where
  pub Parting-up : lows (from + tested) < rest → Parting lows first end rest (from + (tested + 1)) (left - (tested + 1))
  Parting-up below = record {
    begin = omega (arith, h.begin);
    bound = omega (arith, h.bound);
    less = λ j at before. omega (arith, below, rising j (from + tested) at (omega arith) (omega (arith, h.bound)));
    at_least = λ j at before. h.at_least j (omega arith) before;
  }

  pub Parting-down : rest ≤ lows (from + tested) → Parting lows first end rest from tested
  Parting-down reaches = record {
    begin = h.begin;
    bound = omega (arith, h.bound);
    less = h.less;
    at_least = λ j at before. omega (arith, reaches, rising (from + tested) j (omega (arith, h.begin)) at before);
  }

-- numbers that are the same split at the same position
pub Splits-same : (f g : ℕ → ℕ) (first end rest k : ℕ) → ((j : ℕ) → j < end → f j ≡ g j) → Splits f first end rest k
    → Splits g first end rest k
Splits-same f g first end rest k same s = record {
  from = s.from;
  to = s.to;
  less = λ j from less. omega (arith, same j (omega (arith, s.to)), s.less j from less);
  at_least = λ j from less. omega (arith, same j less, s.at_least j from less);
}

-- a fragment before the end is in range
pub fragment-in-range : (low : List ℕ) (k end w : ℕ) → k < end → end * w ≤ 64 * length low → (w ≡ 0 → ⊥) → w ≤ 63 → end < 2 ^ 56
    → IsFragmentInRange low k w
fragment-in-range low k end w less room some narrow short =
    let step : (k + 1) * w ≤ end * w = mul-le-mul_right w (let e : k + 1 ≤ end = omega arith in e) in
    let small : end * w ≤ end * 63 = mul-le-mul_left end narrow in
    let wide : 0 < w = ⊎_elim (λ none. absurd (some none)) (λ apart. omega arith) (cases_eq w 0) in
    (omega arith, (omega arith, omega arith))
