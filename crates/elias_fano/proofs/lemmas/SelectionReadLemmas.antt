-- Reads of one selection or of two, and how many selections a number of digits allows.
use Rattle.std.proofs.Common.{◌≡◌, ℕ, zero, suc, ◌+◌, ◌*◌, ◌/◌, ◌<◌, ◌≤◌, ◌⊎◌, ⊎_elim, inl, inr, refl, ap, arith}
use Rattle.std.proofs.lemmas.Bool.{cases_lt}
use Rattle.std.proofs.Math.Nat.{mul-le-mul_right}
use Rattle.bitm_tables.specs.Reads.{ReadsAtMost}
use Rattle.bitm_tables.specs.declared.source.counts.ReadCounts.{ReadCounts}
use Rattle.bit_lists.specs.Bits.{digit_count}
use Rattle.elias_fano.proofs.lemmas.SizeLemmas.{digit_count-half}

pub digits-some : (n : ℕ) → 0 < n → 1 ≤ digit_count n
digits-some n some = omega (arith, digit_count-half n some)

digits-two : (n : ℕ) → 2 ≤ n → 2 ≤ digit_count n
digits-two n two = omega (arith, digit_count-half n (omega arith), digits-some (n / 2) (omega arith))

-- a number above 0 has a digit
pub digits-allow-one : (early late : ReadCounts) (n uppers : ℕ) → 0 < n → ReadsAtMost early late uppers 23 8
    → ReadsAtMost early late (digit_count n * uppers) (digit_count n * 23) (digit_count n * 8)
digits-allow-one early late n uppers some reads =
    let times : 1 * uppers ≤ digit_count n * uppers = mul-le-mul_right uppers (digits-some n some) in
    let digits = digits-some n some in
    record {
      upper = omega (arith, reads.upper);
      lower = omega (arith, reads.lower);
      words = omega (arith, reads.words);
      upper_kept = reads.upper_kept;
      lower_kept = reads.lower_kept;
      words_kept = reads.words_kept;
    }

-- and one above 1 has two
pub digits-allow-two : (early late : ReadCounts) (n uppers : ℕ) → 2 ≤ n → ReadsAtMost early late (2 * uppers) (2 * 23) (2 * 8)
    → ReadsAtMost early late (digit_count n * uppers) (digit_count n * 23) (digit_count n * 8)
digits-allow-two early late n uppers two reads =
    let times : 2 * uppers ≤ digit_count n * uppers = mul-le-mul_right uppers (digits-two n two) in
    let digits = digits-two n two in
    record {
      upper = omega (arith, reads.upper);
      lower = omega (arith, reads.lower);
      words = omega (arith, reads.words);
      upper_kept = reads.upper_kept;
      lower_kept = reads.lower_kept;
      words_kept = reads.words_kept;
    }

-- nothing of no numbers, and of one what one end takes
pub few-one : (early late : ReadCounts) (n u l w : ℕ) → n ≤ 1 → (n ≡ 0 → late ≡ early) → ReadsAtMost early late u l w
    → ReadsAtMost early late (n * u) (n * l) (n * w)
few-one early late zero u l w few none reads =
    let same = none refl in
    record {
      upper = omega (arith, ap (λ (r : ReadCounts). r.upper) same);
      lower = omega (arith, ap (λ (r : ReadCounts). r.lower) same);
      words = omega (arith, ap (λ (r : ReadCounts). r.words) same);
      upper_kept = reads.upper_kept;
      lower_kept = reads.lower_kept;
      words_kept = reads.words_kept;
    }
few-one early late (suc zero) u l w few none reads = record {
  upper = omega (arith, reads.upper);
  lower = omega (arith, reads.lower);
  words = omega (arith, reads.words);
  upper_kept = reads.upper_kept;
  lower_kept = reads.lower_kept;
  words_kept = reads.words_kept;
}
few-one early late (suc (suc k)) u l w few none reads = absurd (omega (arith, few))

-- of two ends of which one takes nothing
pub few-either : (early mid late : ReadCounts) (u l w : ℕ) → (mid ≡ early) ⊎ (late ≡ mid) → ReadsAtMost early mid u l w
    → ReadsAtMost mid late u l w → ReadsAtMost early late u l w
few-either early mid late u l w (inl same) before after = record {
  upper = omega (arith, ap (λ (r : ReadCounts). r.upper) same, after.upper);
  lower = omega (arith, ap (λ (r : ReadCounts). r.lower) same, after.lower);
  words = omega (arith, ap (λ (r : ReadCounts). r.words) same, after.words);
  upper_kept = omega (arith, before.upper_kept, after.upper_kept);
  lower_kept = omega (arith, before.lower_kept, after.lower_kept);
  words_kept = omega (arith, before.words_kept, after.words_kept);
}
few-either early mid late u l w (inr same) before after = record {
  upper = omega (arith, ap (λ (r : ReadCounts). r.upper) same, before.upper);
  lower = omega (arith, ap (λ (r : ReadCounts). r.lower) same, before.lower);
  words = omega (arith, ap (λ (r : ReadCounts). r.words) same, before.words);
  upper_kept = omega (arith, before.upper_kept, after.upper_kept);
  lower_kept = omega (arith, before.lower_kept, after.lower_kept);
  words_kept = omega (arith, before.words_kept, after.words_kept);
}

-- so the digits of their number allow the selections of a search
pub digits-allow : (early late : ReadCounts) (n uppers : ℕ) → (n ≤ 1 → ReadsAtMost early late (n * uppers) (n * 23) (n * 8))
    → ReadsAtMost early late (uppers + uppers) (23 + 23) (8 + 8)
    → ReadsAtMost early late (digit_count n * uppers) (digit_count n * 23) (digit_count n * 8)
digits-allow early late zero uppers few two =
    let none = few (omega arith) in
    record {
      upper = omega (arith, none.upper);
      lower = omega (arith, none.lower);
      words = omega (arith, none.words);
      upper_kept = none.upper_kept;
      lower_kept = none.lower_kept;
      words_kept = none.words_kept;
    }
digits-allow early late (suc zero) uppers few two =
    let one = few (omega arith) in
    digits-allow-one early late 1 uppers (omega arith)
    record {
      upper = omega (arith, one.upper);
      lower = omega (arith, one.lower);
      words = omega (arith, one.words);
      upper_kept = one.upper_kept;
      lower_kept = one.lower_kept;
      words_kept = one.words_kept;
    }
digits-allow early late (suc (suc k)) uppers few two =
    digits-allow-two early late (suc (suc k)) uppers (omega arith)
    record {
      upper = omega (arith, two.upper);
      lower = omega (arith, two.lower);
      words = omega (arith, two.words);
      upper_kept = two.upper_kept;
      lower_kept = two.lower_kept;
      words_kept = two.words_kept;
    }

-- the start of no bits is found by reading nothing, and so is the end where one number has some
pub few-ends : (early mid late : ReadCounts) (n above u l w : ℕ) → n ≤ 1 → (n ≡ 0 → ⊥) → (above ≡ 0 → mid ≡ early)
    → (n ≡ 1 → 0 < above → late ≡ mid) → ReadsAtMost early mid u l w → ReadsAtMost mid late u l w
    → ReadsAtMost early late (n * u) (n * l) (n * w)
few-ends early mid late n above u l w few some first alone before after =
    let side =
    ⊎_elim (λ more. inr (alone (omega (arith, few, some)) more)) (λ none. inl (first (omega (arith, none)))) (cases_lt 0 above) in
    few-one early late n u l w few (λ none. absurd (some none)) (few-either early mid late u l w side before after)
