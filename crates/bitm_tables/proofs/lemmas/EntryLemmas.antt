-- The fields of an entry are counts; the entry of the negated bits is one subtraction, in which nothing borrows.
use Rattle.std.proofs.Common.{◌≡◌, ℕ, zero, suc, ◌+◌, ◌-◌, ◌*◌, ◌/◌, ◌%◌, ◌^◌, ◌<◌, ◌≤◌, Bool, false, not, cond, List, [], ◌∷◌, ◌++◌, replicate, length, take, arith, refl, sym, ap, ◌∙◌, length-append}
use Rattle.std.proofs.lemmas.List.{length-replicate}
use Rattle.std.proofs.lemmas.List.Sums.{sum_by-cons}
use Rattle.std.specs.Int.{div_ceil}
use Rattle.bit_lists.proofs.lemmas.CountLemmas.{ones_before-add-zeros_before}
use Rattle.bit_lists.specs.Count.{ones_before, zeros_before}
use Rattle.bitm_tables.specs.Entry.{packed_counts, before_in_part, in_records, lower_entry, field_0, record_field, greatest_entry, FieldsFit, padded_bits, negation}
use Rattle.bitm_tables.proofs.lemmas.StretchLemmas.{ones_before-least, ones_before-most, ones_before-between}

-- ---- the fields of a packed entry, each within its bits

module _ (r0 r1 r2 r3 : ℕ) (h0 : r0 < 2 ^ 32) (h1 : r1 < 2 ^ 10) (h2 : r2 < 2 ^ 11) (h3 : r3 < 2 ^ 11) where
  low_field : packed_counts r0 r1 r2 r3 % 2 ^ 32 ≡ r0
  low_field = omega arith

  shifted-0 : packed_counts r0 r1 r2 r3 / 2 ^ 33 / 2 ^ 32 % 2 ^ 11 ≡ 0
  shifted-0 = omega arith

  shifted-1 : packed_counts r0 r1 r2 r3 / 2 ^ 22 / 2 ^ 32 % 2 ^ 11 ≡ r1
  shifted-1 = omega arith

  shifted-2 : packed_counts r0 r1 r2 r3 / 2 ^ 11 / 2 ^ 32 % 2 ^ 11 ≡ r2
  shifted-2 = omega arith

  shifted-3 : packed_counts r0 r1 r2 r3 / 2 ^ 0 / 2 ^ 32 % 2 ^ 11 ≡ r3
  shifted-3 = omega arith

fields_fit : (r0 r1 r2 r3 j : ℕ) → r0 ≤ j % 2 ^ 21 * 2048 → r1 ≤ 512 → r2 ≤ 1024 → r3 ≤ 1536 → FieldsFit (packed_counts r0 r1 r2 r3) j
fields_fit r0 r1 r2 r3 j h0 h1 h2 h3 = record { before = omega arith; one = omega arith; two = omega arith; three = omega arith }

-- a difference of packed counts, none of which borrows
packed_counts-sub : (g0 g1 g2 g3 r0 r1 r2 r3 : ℕ) → r0 ≤ g0 → r1 ≤ g1 → r2 ≤ g2 → r3 ≤ g3
    → packed_counts g0 g1 g2 g3 - packed_counts r0 r1 r2 r3 ≡ packed_counts (g0 - r0) (g1 - r1) (g2 - r2) (g3 - r3)
packed_counts-sub g0 g1 g2 g3 r0 r1 r2 r3 h0 h1 h2 h3 = omega arith

-- ---- an entry of the lower table

module _ (b : List Bool) (j : ℕ) where
  r0-lt : before_in_part b j < 2 ^ 32
  r0-lt = let h = ones_before-between b ((j / 2 ^ 21) * 2 ^ 32) (2048 * j) (omega arith) in omega arith

  r-le : (k : ℕ) → in_records b j k ≤ 512 * k
  r-le k = omega (arith, ones_before-most b (2048 * j) (512 * k))

  one-lt : in_records b j 1 < 2 ^ 10
  one-lt = omega (arith, r-le 1)

  two-lt : in_records b j 2 < 2 ^ 11
  two-lt = omega (arith, r-le 2)

  three-lt : in_records b j 3 < 2 ^ 11
  three-lt = omega (arith, r-le 3)

  pub entry-low : lower_entry b j % 2 ^ 32 ≡ before_in_part b j
  entry-low = low_field (before_in_part b j) (in_records b j 1) (in_records b j 2) (in_records b j 3) r0-lt one-lt two-lt three-lt

  pub entry-fits : FieldsFit (lower_entry b j) j
  entry-fits =
      let h = ones_before-between b ((j / 2 ^ 21) * 2 ^ 32) (2048 * j) (omega arith) in
      fields_fit (before_in_part b j) (in_records b j 1) (in_records b j 2) (in_records b j 3) j (omega arith) (r-le 1) (r-le 2) (r-le 3)

  -- the field of a record, by two shifts
  pub entry-shifted : (k : ℕ) → k < 4 → lower_entry b j / 2 ^ (11 * (3 - k)) / 2 ^ 32 % 2 ^ 11 ≡ in_records b j k
  entry-shifted zero h =
      shifted-0 (before_in_part b j) (in_records b j 1) (in_records b j 2) (in_records b j 3) r0-lt one-lt two-lt three-lt
      ∙ omega (arith, r-le 0)
  entry-shifted (suc zero) h =
      shifted-1 (before_in_part b j) (in_records b j 1) (in_records b j 2) (in_records b j 3) r0-lt one-lt two-lt three-lt
  entry-shifted (suc (suc zero)) h =
      shifted-2 (before_in_part b j) (in_records b j 1) (in_records b j 2) (in_records b j 3) r0-lt one-lt two-lt three-lt
  entry-shifted (suc (suc (suc zero))) h =
      shifted-3 (before_in_part b j) (in_records b j 1) (in_records b j 2) (in_records b j 3) r0-lt one-lt two-lt three-lt
  entry-shifted (suc (suc (suc (suc k)))) h = absurd (omega arith)

  -- the fields count the ones in the first records
  pub record_field_is : (k : ℕ) → k < 4 → record_field (lower_entry b j) k ≡ in_records b j k
  record_field_is zero h = let e : 2048 * j + 512 * 0 ≡ 2048 * j = omega arith in let s = ap (ones_before b) e in omega (arith, s)
  record_field_is (suc zero) h = omega (arith, r0-lt, one-lt, two-lt, three-lt)
  record_field_is (suc (suc zero)) h = omega (arith, r0-lt, one-lt, two-lt, three-lt)
  record_field_is (suc (suc (suc zero))) h = omega (arith, r0-lt, one-lt, two-lt, three-lt)
  record_field_is (suc (suc (suc (suc k)))) h = absurd (omega arith)

-- ---- the padded bits, negated

pub ones_before-negation : (b : List Bool) (i : ℕ) → ones_before (negation b) i ≡ zeros_before b i
unfolding ones_before zeros_before
ones_before-negation b zero = refl
ones_before-negation [] (suc i) = refl
ones_before-negation (x ∷ b) (suc i) =
    sum_by-cons (λ (x : Bool). cond x 1 0) (not x) (take i (negation b))
    ∙ ap (λ (n : ℕ). cond (not x) 1 0 + n) (ones_before-negation b i)
    ∙ sym (sum_by-cons (λ (x : Bool). cond (not x) 1 0) x (take i b))

none_more : (n i : ℕ) → ones_before (replicate n false) i ≡ 0
unfolding ones_before
none_more n zero = refl
none_more zero (suc i) = refl
none_more (suc n) (suc i) = none_more n i

pub ones_before-padded_bits : (b : List Bool) (n i : ℕ) → ones_before (b ++ replicate n false) i ≡ ones_before b i
unfolding ones_before
ones_before-padded_bits b n zero = refl
ones_before-padded_bits [] n (suc i) = none_more n (suc i)
ones_before-padded_bits (x ∷ b) n (suc i) =
    sum_by-cons (λ (x : Bool). cond x 1 0) x (take i (b ++ replicate n false))
    ∙ ap (λ (n : ℕ). cond x 1 0 + n) (ones_before-padded_bits b n i)
    ∙ sym (sum_by-cons (λ (x : Bool). cond x 1 0) x (take i b))

pub ones_before-complement : (b : List Bool) (i : ℕ) → i ≤ div_ceil (length b) 2048 * 2048
    → ones_before (negation (padded_bits b)) i + ones_before b i ≡ i
ones_before-complement b i h =
    let n = div_ceil (length b) 2048 * 2048 - length b in
    let l : i ≤ length (padded_bits b) = omega (arith, length-append b (replicate n false), length-replicate n false) in
    omega (arith, ones_before-negation (padded_bits b) i, ones_before-add-zeros_before (padded_bits b) i l, ones_before-padded_bits b n i)

module _ (b : List Bool) (j : ℕ) (inside : j < div_ceil (length b) 2048) where
  before-complement : before_in_part (negation (padded_bits b)) j ≡ j % 2 ^ 21 * 2048 - before_in_part b j
  before-complement =
      let p = ones_before-between b ((j / 2 ^ 21) * 2 ^ 32) (2048 * j) (omega arith) in
      omega (arith, ones_before-complement b (2048 * j) (omega arith), ones_before-complement b ((j / 2 ^ 21) * 2 ^ 32) (omega arith))

  records-complement : (k : ℕ) → k ≤ 3 → in_records (negation (padded_bits b)) j k ≡ 512 * k - in_records b j k
  records-complement k h =
      omega (
        arith,
        ones_before-most b (2048 * j) (512 * k),
        ones_before-least b (2048 * j) (512 * k),
        ones_before-complement b (2048 * j) (omega arith),
        ones_before-complement b (2048 * j + 512 * k) (omega arith),
      )

  pub entry-complement : greatest_entry j - lower_entry b j ≡ lower_entry (negation (padded_bits b)) j
  entry-complement =
      let p = ones_before-between b ((j / 2 ^ 21) * 2 ^ 32) (2048 * j) (omega arith) in
      let m = ones_before-most b (2048 * j) in
      rw (before-complement, records-complement 1 (omega arith), records-complement 2 (omega arith), records-complement 3 (omega arith))
      (packed_counts-sub (j % 2 ^ 21 * 2048) 512 1024 1536 (before_in_part b j) (in_records b j 1) (in_records b j 2) (in_records b j 3)
      (omega arith) (omega (arith, m 512)) (omega (arith, m 1024)) (omega (arith, m 1536)))

  pub zeros-complement : field_0 (lower_entry (negation (padded_bits b)) j) ≡ zeros_before b (2048 * j) - zeros_before b (j / 2 ^ 21 * 2 ^ 32)
  zeros-complement =
      entry-low (negation (padded_bits b)) j
      ∙ omega (
        arith,
        ones_before-complement b (2048 * j) (omega arith),
        ones_before-complement b ((j / 2 ^ 21) * 2 ^ 32) (omega arith),
        ones_before-add-zeros_before b (2048 * j) (omega arith),
        ones_before-add-zeros_before b ((j / 2 ^ 21) * 2 ^ 32) (omega arith),
      )
