-- A search by halves for the last count that is at most a rank, and the numbers of tests that it takes.
use Rattle.std.proofs.Common.{◌≡◌, ℕ, ◌+◌, ◌-◌, ◌/◌, ◌<◌, ◌≤◌, ◌⊎◌, ⊎_elim, sym, subst, arith}
use Rattle.bit_lists.proofs.lemmas.DigitLemmas.{digit_count-mono, digit_count_half}
use Rattle.bit_lists.specs.Bits.{digit_count}
use Rattle.digits.specs.Search.{IsAmongCounts, IsLastCount}

module _ (count : ℕ → ℕ) (first end r : ℕ) where
  pub among_all : (left : ℕ) → first < end → left ≡ end - first → count first ≤ r → IsAmongCounts count first end r first left
  among_all left some is z =
      record { some = omega arith; from = omega arith; bound = omega arith; at_most = z; above = λ h. absurd (omega arith) }

  -- one test in the middle, whichever way it goes: the counts do not fall
  pub among_half : (low left next seen : ℕ) → IsAmongCounts count first end r low left → 1 < left → seen ≡ count (low + left / 2)
      → ((seen ≤ r) × (next ≡ low + left / 2)) ⊎ ((r < seen) × (next ≡ low)) → ((j k : ℕ) → j ≤ k → k < end → count j ≤ count k)
      → IsAmongCounts count first end r next (left - left / 2)
  among_half low left next seen b h is side rise =
      let P : ℕ → Type 0 = λ k. IsAmongCounts count first end r k (left - left / 2) in
      ⊎_elim
      (λ up.
      let e : low + left / 2 + (left - left / 2) ≡ low + left = omega arith in
      let upper : IsAmongCounts count first end r (low + left / 2) (left - left / 2) =
      record {
        some = omega (arith, h);
        from = omega (arith, b.from);
        bound = omega (arith, b.bound);
        at_most = omega (arith, is, up.0);
        above = λ m. subst (λ k. r < count k) (sym e) (b.above (omega arith));
      } in
      subst P (sym up.1) upper)
      (λ down.
      let lt : r < count (low + left / 2) = omega (arith, is, down.0) in
      let lower : IsAmongCounts count first end r low (left - left / 2) =
      record {
        some = omega (arith, h);
        from = b.from;
        bound = omega (arith, b.bound);
        at_most = b.at_most;
        above = λ m. omega (arith, lt, rise (low + left / 2) (low + (left - left / 2)) (omega (arith, h)) m);
      } in
      subst P (sym down.1) lower)
      side

  pub last_of_one : (low left : ℕ) → IsAmongCounts count first end r low left → left ≤ 1 → IsLastCount count first end r low
  last_of_one low left b h =
      let e : low + 1 ≡ low + left = omega (arith, b.some) in
      record {
        from = b.from;
        inside = omega (arith, b.bound, b.some);
        at_most = b.at_most;
        next = λ m. subst (λ k. r < count k) (sym e) (b.above (omega arith));
      }

-- a test leaves half of what was left, rounded up
pub tests_left : (left : ℕ) → 1 < left → digit_count (left - left / 2 - 1) + 1 ≤ digit_count (left - 1)
tests_left left h =
    omega (arith, digit_count_half (left - 1) (omega arith), digit_count-mono (left - left / 2 - 1) ((left - 1) / 2) (omega arith))
