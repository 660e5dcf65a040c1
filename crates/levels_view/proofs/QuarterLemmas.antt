-- The numbers of basic blocks are claimed to be right by counts up to the quarters.
use Rattle.std.proofs.Common.{◌≡◌, ℕ, ◌+◌, ◌-◌, ◌*◌, ◌/◌, ◌%◌, ◌^◌, ◌<◌, ◌≤◌, Bool, List, length, slice_index, ap, sym, subst, ◌∙◌, arith}
use Rattle.std.specs.Int.{div_ceil}
use Rattle.bit_lists.specs.Bits.{bits_of}
use Rattle.bit_lists.specs.Count.{ones_before}
use Rattle.bit_lists.proofs.lemmas.BitsLemmas.{length-bits_of}
use Rattle.bitm_tables.specs.Quarters.{AreQuartersOf, quarter_count, record_count}
use Rattle.levels_view.specs.Quarters.{CountsToQuarter}

-- a number counts to a quarter exactly where its parts are what is between the upper block and the quarter
pub claims-quarter : (b : List Bool) (k e part before x y : ℕ) → part ≡ ones_before b (k / 4 / 2 ^ 23 * 2 ^ 32) → before ≡ ones_before b (128 * k)
    → x ≡ record_count e → y ≡ quarter_count e (k % 4) → part ≤ before
    → (x + y ≡ before - part → CountsToQuarter b k e) × (CountsToQuarter b k e → x + y ≡ before - part)
claims-quarter b k e part before x y part_is before_is x_is y_is order = (
  λ h. omega (arith, h, part_is, before_is, x_is, y_is, order),
  λ h. omega (arith, h, part_is, before_is, x_is, y_is, order),
)

-- a quarter that has a bit has an even word
quarter-begun : (n k : ℕ) → 2 * k < n → k < div_ceil n 2
quarter-begun n k h = grind arith

-- quarters of which each counts are those of the bits
pub quarters-of : (words quarters : List ℕ) → length quarters ≡ div_ceil (length words) 8
    → ((k : ℕ) → k < div_ceil (length words) 2 → CountsToQuarter (bits_of words) k (slice_index quarters (k / 4)))
    → AreQuartersOf (bits_of words) quarters
quarters-of words quarters len right = record {
  len = len ∙ eights (length words) ∙ ap (λ (n : ℕ). div_ceil n 512) (sym (length-bits_of words));
  counts = λ r q less begun.
      let b = bits_of words in
      let k = 4 * r + q in
      let inside : 2 * k < length words = omega (arith, begun, length-bits_of words) in
      let block : k / 4 ≡ r = omega (arith, less) in
      let quarter : k % 4 ≡ q = omega (arith, less) in
      let position : 128 * k ≡ 512 * r + 128 * q = omega arith in
      let here = right k (quarter-begun (length words) k inside) in
      let P : ℕ → ℕ → ℕ → Type 0 = λ n p m. (let e = slice_index quarters n in
      ones_before b (n / 2 ^ 23 * 2 ^ 32) + record_count e + quarter_count e p ≡ ones_before b m) in
      subst (P r q) position (subst (λ (p : ℕ). P r p (128 * k)) quarter (subst (λ (n : ℕ). P n (k % 4) (128 * k)) block here));
}
  where
    eights : (n : ℕ) → div_ceil n 8 ≡ div_ceil (64 * n) 512
    eights n = grind arith

-- and of quarters of the bits each counts
pub quarters-each : (words quarters : List ℕ) → AreQuartersOf (bits_of words) quarters → (k : ℕ) → 2 * k < length words
    → CountsToQuarter (bits_of words) k (slice_index quarters (k / 4))
quarters-each words quarters h k inside =
    let b = bits_of words in
    let position : 512 * (k / 4) + 128 * (k % 4) ≡ 128 * k = omega arith in
    h.counts (k / 4) (k % 4) (omega arith) (omega (arith, inside, position, length-bits_of words)) ∙ ap (ones_before b) position
