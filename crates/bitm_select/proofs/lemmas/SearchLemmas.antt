-- A search by halves: what it knows on the way, and that it takes no more tests than its range has binary digits.
use Rattle.std.proofs.Common.{◌≡◌, ℕ, ◌+◌, ◌-◌, ◌*◌, ◌/◌, ◌%◌, ◌^◌, ◌<◌, ◌≤◌, ◌⊎◌, ⊎_elim, ap, ◌∙◌, arith, inl, inr, sym, subst}
use Rattle.std.proofs.Math.Pow.{pow_mono}
use Rattle.std.proofs.lemmas.Bool.{cases_lt}
use Rattle.bit_lists.proofs.lemmas.DigitLemmas.{digit_count-mono, digit_count_half}
use Rattle.bit_lists.specs.Bits.{digit_count}
use Rattle.bitm_select.specs.Search.{Between, IsLastWithin}

-- what a step adds is the step or nothing
pub no_step : (r at step : ℕ) → r ≡ 0 → at + r * step % 18446744073709551616 ≡ at
no_step r at step none = ap (λ (n : ℕ). at + n * step % 18446744073709551616) none ∙ omega arith

pub one_step : (r at step : ℕ) → r ≡ 1 → step ≤ 2 ^ 20 → at + r * step % 18446744073709551616 ≡ at + step
one_step r at step one small = ap (λ (n : ℕ). at + n * step % 18446744073709551616) one ∙ omega (arith, small)

-- a step of the search is over no more than half of a part
pub step_few : (size : ℕ) → size < 21 → 2 ^ size ≤ 2 ^ 20
step_few size h = let le : size ≤ 20 = omega (arith, h) in pow_mono le

-- a power of two that is at most 2^21
pub few_halvings : (k n : ℕ) → 2 ^ k ≤ n → n ≤ 2 ^ 21 → k ≤ 21
few_halvings k n least few =
    elim (cases_lt 21 k) [
      | inl h ↦
          let more : 22 ≤ k = omega (arith, h) in
          let big : 2 ^ 22 ≤ 2 ^ k = pow_mono more in
          absurd (omega (arith, big, least, few))
      | inr h ↦ h
    ]

module _ (count : ℕ → ℕ) (n r : ℕ) where
  pub search_begins : 0 < n → count 0 ≤ r → Between count n r 0 n
  search_begins some z = record { some = some; bound = omega arith; at_most = z; above = λ h. absurd (omega arith) }

  -- the two sides of any cut of the range
  pub goes_over : (low left cut : ℕ) → Between count n r low left → 0 < cut → cut < left → count (low + cut) ≤ r
      → Between count n r (low + cut) (left - cut)
  goes_over low left cut b some inside le =
      let e : low + cut + (left - cut) ≡ low + left = omega arith in
      record {
        some = omega arith;
        bound = omega (arith, b.bound);
        at_most = le;
        above = λ m. subst (λ k. r < count k) (sym e) (b.above (omega arith));
      }

  pub goes_under : (low left cut : ℕ) → Between count n r low left → 0 < cut → cut < left → r < count (low + cut)
      → Between count n r low cut
  goes_under low left cut b some inside lt =
      record { some = some; bound = omega (arith, b.bound); at_most = b.at_most; above = λ m. lt }

  -- the last w entries, or the first ones: some are among both
  pub last_of_all : (w : ℕ) → 0 < w → w ≤ n → count (n - w) ≤ r → Between count n r (n - w) w
  last_of_all w some fits le = record { some = some; bound = omega (arith, fits); at_most = le; above = λ m. absurd (omega (arith, m, fits)) }

  pub first_of_all : (w : ℕ) → 0 < w → w ≤ n → n < 2 * w → r < count (n - w) → count 0 ≤ r
      → ((j k : ℕ) → j ≤ k → k < n → count j ≤ count k) → Between count n r 0 w
  first_of_all w some fits more lt z rise =
      record {
        some = some;
        bound = omega (arith, fits);
        at_most = z;
        above = λ m.
            let begins : 0 + w ≡ w = omega arith in
            let inside : w < n = omega (arith, m) in
            let later : count (n - w) ≤ count w = rise (n - w) w (omega (arith, more)) inside in
            subst (λ k. r < count k) (sym begins) (omega (arith, lt, later));
      }

  -- one test in the middle, whichever way it goes: the counts do not fall
  pub halves : (low left next seen : ℕ) → Between count n r low left → 1 < left → seen ≡ count (low + left / 2)
      → ((seen ≤ r) × (next ≡ low + left / 2)) ⊎ ((r < seen) × (next ≡ low)) → ((j k : ℕ) → j ≤ k → k < n → count j ≤ count k)
      → Between count n r next (left - left / 2)
  halves low left next seen b h is side rise =
      let P : ℕ → Type 0 = λ k. Between count n r k (left - left / 2) in
      ⊎_elim
      (λ up. subst P (sym up.1) (goes_over low left (left / 2) b (omega (arith, h)) (omega (arith, h)) (omega (arith, is, up.0))))
      (λ down.
      let lt : r < count (low + left / 2) = omega (arith, is, down.0) in
      let rest : Between count n r low (left - left / 2) =
      record {
        some = omega (arith, h);
        bound = omega (arith, b.bound);
        at_most = b.at_most;
        above = λ m. omega (arith, lt, rise (low + left / 2) (low + (left - left / 2)) (omega (arith, h)) m);
      } in
      subst P (sym down.1) rest)
      side

  pub search_ends : (low left : ℕ) → Between count n r low left → left ≤ 1 → IsLastWithin count n r low
  search_ends low left b h =
      let e : low + 1 ≡ low + left = omega (arith, b.some) in
      let next : low + 1 < n → r < count (low + 1) = λ m. subst (λ k. r < count k) (sym e) (b.above (omega arith)) in
      record { inside = omega (arith, b.bound, b.some); at_most = b.at_most; next = next }

-- a test leaves half of what was left, rounded up
pub halves_left : (left : ℕ) → 1 < left → digit_count (left - left / 2 - 1) + 1 ≤ digit_count (left - 1)
halves_left left h =
    omega (arith, digit_count_half (left - 1) (omega arith), digit_count-mono (left - left / 2 - 1) ((left - 1) / 2) (omega arith))
