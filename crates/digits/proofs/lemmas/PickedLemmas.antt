-- A digit in a part of a line, and the line of a rank.
use Rattle.std.proofs.Common.{◌≡◌, Bool, true, false, ℕ, zero, suc, ◌+◌, ◌-◌, ◌*◌, ◌/◌, ◌%◌, ◌^◌, ◌<◌, ◌≤◌, ◌==◌, List, length, min, refl, sym, ap, ap₂, subst, ◌∙◌, arith, bit_and, count_ones, ⊎_elim, mod-eq_of_lt}
use Rattle.std.proofs.lemmas.Bool.{cases_lt, eqb-true}
use Rattle.std.proofs.lemmas.Nat.Bits.{bit_at-lt, bit_at_and, bit_at_ones, bit_at_above}
use Rattle.std.specs.Int.{bit_at}
use Rattle.bit_lists.proofs.lemmas.CountLemmas.{count_ones_more}
use Rattle.bit_lists.proofs.lemmas.WordLemmas.{truth}
use Rattle.digits.specs.Digits.{digits_of, digits_before, digit_in, low_word, high_word}
use Rattle.digits.specs.Search.{IsLastCount}
use Rattle.digits.specs.Tables.{DigitLists, HasDigitSizes}
use Rattle.digits.proofs.lemmas.DigitLemmas.{length-digits_of, digits_of_part}
use Rattle.digits.proofs.lemmas.TableLemmas.{between_few}

-- ---- the bits of a part

mask_bit : (t j : ℕ) → t < 2 → j + 32 * t < 64 → bit_at ((2 ^ 64 - 1) / 2 ^ (32 * t)) j ≡ 1
mask_bit zero j few inside = bit_at_ones 64 j (omega (arith, inside))
mask_bit (suc zero) j few inside = bit_at_ones 32 j (omega (arith, inside))
mask_bit (suc (suc t)) j few inside = absurd (omega arith)

pub masked_bit : (m p j : ℕ) → p < 4 → j < 64 → 64 * p + j < 224 → bit_at (bit_and m ((2 ^ 64 - 1) / 2 ^ (32 * (p / 3)))) j ≡ bit_at m j
masked_bit m p j few inside position =
    omega (
      arith,
      bit_at_and m ((2 ^ 64 - 1) / 2 ^ (32 * (p / 3))) j,
      mask_bit (p / 3) j (omega (arith, few)) (omega (arith, few, inside, position)),
      bit_at-lt m j,
    )

-- the word m has a one for each digit of part j of line k that is d, and no other
pub record IsPart (words : List ℕ) (k j d m : ℕ) : Type 0 where
  pub bits : (i : ℕ) → i < 64 → 64 * j + i < 224 → bit_at m i ≡ truth (bit_at (low_word words k j) i + 2 * bit_at (high_word words k j) i == d)
  pub fits : m < 2 ^ min 64 (224 - 64 * j)

pub part_more : (words : List ℕ) (k j d m : ℕ) → 8 * k + 8 ≤ length words → j < 4 → IsPart words k j d m
    → digits_before d (digits_of words) (224 * k + min (64 * (j + 1)) 224) ≡ digits_before d (digits_of words) (224 * k + min (64 * j) 224) + count_ones m
part_more words k j d m within few part =
    let D = digits_before d (digits_of words) in
    let y = min 64 (224 - 64 * j) in
    let all = digits_of_part words k j d m within part.bits y (omega arith) (omega (arith, few)) in
    let from : 224 * k + 64 * j ≡ 224 * k + min (64 * j) 224 = omega (arith, few) in
    let to : 224 * k + 64 * j + y ≡ 224 * k + min (64 * (j + 1)) 224 = omega (arith, few) in
    omega (arith, all, ap D from, ap D to, ap count_ones (mod-eq_of_lt part.fits))

of_truth : (b : Bool) → truth b ≡ 1 → b ≡ true
of_truth true is = refl
of_truth false is = absurd (omega (arith, is))

pub part_picked : (words : List ℕ) (k j d m p r : ℕ) → 8 * k + 8 ≤ length words → j < 4 → IsPart words k j d m → p < 64
    → count_ones (m % 2 ^ p) ≡ r → count_ones (m % 2 ^ (p + 1)) ≡ r + 1
    → (64 * j + p < 224) × (digit_in words k (64 * j + p) ≡ d)
    × (digits_before d (digits_of words) (224 * k + (64 * j + p)) ≡ digits_before d (digits_of words) (224 * k + min (64 * j) 224) + r)
part_picked words k j d m p r within few part inside before through =
    let D = digits_before d (digits_of words) in
    let one : bit_at m p ≡ 1 = omega (arith, count_ones_more m p, before, through) in
    let y = min 64 (224 - 64 * j) in
    let below : p < y =
    ⊎_elim (λ (l : p < y). l) (λ (above : y ≤ p). absurd (omega (arith, one, bit_at_above m y p part.fits above))) (cases_lt p y) in
    let position : 64 * j + p < 224 = omega (arith, below, few) in
    let whole : (64 * j + p) / 64 ≡ j = omega (arith, inside) in
    let rest : (64 * j + p) % 64 ≡ p = omega (arith, inside) in
    let is : bit_at (low_word words k j) p + 2 * bit_at (high_word words k j) p ≡ d =
    eqb-true _ _ (of_truth _ (sym (part.bits p inside position) ∙ one)) in
    let from : 224 * k + 64 * j ≡ 224 * k + min (64 * j) 224 = omega (arith, few) in
    let to : 224 * k + 64 * j + p ≡ 224 * k + (64 * j + p) = omega arith in
    let count = digits_of_part words k j d m within part.bits p (omega (arith, inside)) (omega (arith, position)) in (
      position,
      ap₂ (λ (a b : ℕ). bit_at (low_word words k a) b + 2 * bit_at (high_word words k a) b) whole rest ∙ is,
      omega (arith, count, before, ap D from, ap D to),
    )

-- ---- the line of a rank

-- a rank below the count of all digits is below the count before the next line
pub below_next : (lists : DigitLists) (d r e k : ℕ) → HasDigitSizes lists → r < digits_before d (digits_of lists.lines) lists.len
    → IsLastCount (λ i. digits_before d (digits_of lists.lines) (224 * (256 * i))) 0 (lists.len / 224 / 256 + 1) r e
    → IsLastCount (λ i. digits_before d (digits_of lists.lines) (224 * i)) (256 * e) (min (256 * e + 256) (lists.len / 224 + 1)) r k
    → r < digits_before d (digits_of lists.lines) (224 * (k + 1))
below_next lists d r e k sizes some entry line =
    let D = digits_before d (digits_of lists.lines) in
    let end = min (256 * e + 256) (lists.len / 224 + 1) in
    let len = length-digits_of lists.lines in
    let last : k + 1 ≡ lists.len / 224 + 1 → r < D (224 * (k + 1)) = λ is.
    omega (
      arith,
      some,
      (between_few d (digits_of lists.lines) lists.len (224 * (k + 1)) (omega (arith, is)) (omega (arith, is, len, sizes.lines_len))).0,
    ) in
    ⊎_elim (λ (l : k + 1 < end). line.next l)
    (λ (m : end ≤ k + 1).
    ⊎_elim
    (λ (l : e + 1 < lists.len / 224 / 256 + 1).
    let is : 224 * (256 * (e + 1)) ≡ 224 * (k + 1) = omega (arith, m, l, line.inside) in
    subst (λ (n : ℕ). r < D n) is (entry.next l))
    (λ (n : lists.len / 224 / 256 + 1 ≤ e + 1). last (omega (arith, m, n, line.inside, entry.inside)))
    (cases_lt (e + 1) (lists.len / 224 / 256 + 1)))
    (cases_lt (k + 1) end)
