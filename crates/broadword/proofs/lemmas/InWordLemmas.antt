-- The ones among the lowest digits of a number, counted part by part, and the one that a rank picks there.
use Rattle.std.proofs.Common.{◌≡◌, ℕ, zero, suc, ◌+◌, ◌-◌, ◌*◌, ◌/◌, ◌%◌, ◌^◌, ◌<◌, ◌≤◌, true, ◌==◌, count_ones, ap, ap₂, ◌∙◌, arith, zero-add, le_refl, mod-eq_of_lt, add_comm}
use Rattle.std.proofs.lemmas.Nat.{mod_below, mod-pow-add, ones_cat, pow_pos, ones-le, ones_le_self, shl-shr}
use Rattle.std.proofs.lemmas.Nat.Bits.{bit_at-lt}
use Rattle.std.proofs.Math.Nat.{mul-mod_left}
use Rattle.std.proofs.Math.Pow.{mod-mod-pow}
use Rattle.std.specs.Int.{bit_at}
use Rattle.bit_lists.proofs.lemmas.BitsLemmas.{length-low_digits, item-low_digits}
use Rattle.bit_lists.proofs.lemmas.CountLemmas.{ones_before_more, ones_before_none, count_ones_more}
use Rattle.bit_lists.proofs.lemmas.WordLemmas.{truth, truth-digit}
use Rattle.bit_lists.specs.Bits.{low_digits}
use Rattle.bit_lists.specs.Count.{ones_before, Picks}

-- ---- counts

-- where the digits above position k are shifted out of 64, the ones of the others are left
pub ones_shifted : (w k : ℕ) → k < 64 → count_ones (w * 2 ^ (63 - k) % 2 ^ 64) ≡ count_ones (w % 2 ^ (k + 1))
ones_shifted w k inside =
    let s = 63 - k in
    let both : 64 ≡ k + 1 + s = omega arith in
    let kept : w * 2 ^ s % 2 ^ (k + 1 + s) ≡ (w % 2 ^ (k + 1)) * 2 ^ s + 0 =
    mod-pow-add (w * 2 ^ s) (k + 1) s ∙ ap₂ (λ a z. (a % 2 ^ (k + 1)) * 2 ^ s + z) (shl-shr w s) (mul-mod_left w (2 ^ s)) in
    ap (λ e. count_ones (w * 2 ^ s % 2 ^ e)) both
    ∙ ap count_ones kept
    ∙ ones_cat s (w % 2 ^ (k + 1)) 0 (pow_pos s)
    ∙ omega (arith, ones_le_self 0)

-- one digit counts as itself
pub ones_before-low_digits_more : (k n p : ℕ) → p < k → ones_before (low_digits k n) (p + 1) ≡ ones_before (low_digits k n) p + bit_at n p
ones_before-low_digits_more k n p inside =
    ones_before_more (low_digits k n) p (omega (arith, length-low_digits k n))
    ∙ ap (λ x. ones_before (low_digits k n) p + truth x) (item-low_digits k n p inside)
    ∙ ap (λ d. ones_before (low_digits k n) p + d) (truth-digit n p)

-- the ones among the i lowest digits are those of the remainder
pub ones_before-low_digits : (k i n : ℕ) → i ≤ k → ones_before (low_digits k n) i ≡ count_ones (n % 2 ^ i)
ones_before-low_digits k zero n fits =
    let none : n % 1 ≡ 0 = omega arith in
    omega (arith, ones_before_none (low_digits k n), ap count_ones none, ones_le_self 0)
ones_before-low_digits k (suc i) n fits =
    let step : suc i ≡ i + 1 = omega arith in
    omega (
      arith,
      ap (ones_before (low_digits k n)) step,
      ones_before-low_digits_more k n i (omega arith),
      ones_before-low_digits k i n (omega arith),
      count_ones_more n i,
      ap (λ e. count_ones (n % 2 ^ e)) step,
    )

pub ones_before-low_digits_none : (k n : ℕ) → ones_before (low_digits k n) 0 ≡ 0
ones_before-low_digits_none k n = ones_before_none (low_digits k n)

-- the ones of p digits and of the q above them
pub ones_before-low_digits_split : (k n p q : ℕ) → p + q ≤ k
    → ones_before (low_digits k n) (p + q) ≡ ones_before (low_digits k n) p + count_ones (n / 2 ^ p % 2 ^ q)
ones_before-low_digits_split k n p q fits =
    let cut =
    ap (λ j. count_ones (n % 2 ^ j)) (add_comm p q)
    ∙ ap count_ones (mod-pow-add n q p)
    ∙ ones_cat p (n / 2 ^ p % 2 ^ q) (n % 2 ^ p) (mod_below n (2 ^ p) (pow_pos p)) in
    omega (arith, ones_before-low_digits k (p + q) n fits, cut, ones_before-low_digits k p n (omega arith))

-- over q digits more, the count rises by at most q
pub ones_before-low_digits_rises : (k n p q : ℕ) → p + q ≤ k
    → (ones_before (low_digits k n) p ≤ ones_before (low_digits k n) (p + q))
    × (ones_before (low_digits k n) (p + q) ≤ ones_before (low_digits k n) p + q)
ones_before-low_digits_rises k n p q fits =
    let split = ones_before-low_digits_split k n p q fits in
    let few = ones-le q (n / 2 ^ p % 2 ^ q) (mod_below (n / 2 ^ p) (2 ^ q) (pow_pos q)) in
    (omega arith, omega arith)

-- there are no more ones than digits
pub ones_before-low_digits_few : (k n : ℕ) → ones_before (low_digits k n) k ≤ k
ones_before-low_digits_few k n =
    let rise = ones_before-low_digits_rises k n 0 k (omega arith) in
    omega (arith, ones_before-low_digits_none k n, ap (ones_before (low_digits k n)) (zero-add k))

-- the ones of the q digits above p, as a list of their own
ones_before-low_digits_part : (n p q i : ℕ) → i ≤ q → ones_before (low_digits q (n / 2 ^ p % 2 ^ q)) i ≡ count_ones (n / 2 ^ p % 2 ^ i)
ones_before-low_digits_part n p q i fits =
    let cut : q ≡ q - i + i = omega arith in
    ones_before-low_digits q i (n / 2 ^ p % 2 ^ q) fits
    ∙ ap (λ j. count_ones (n / 2 ^ p % 2 ^ j % 2 ^ i)) cut
    ∙ ap count_ones (mod-mod-pow (n / 2 ^ p) (q - i) i)

-- the ones of p digits and of i of the q above them
pub ones_before-low_digits_above : (k n p q i : ℕ) → p + q ≤ k → i ≤ q
    → ones_before (low_digits k n) (p + i) ≡ ones_before (low_digits k n) p + ones_before (low_digits q (n / 2 ^ p % 2 ^ q)) i
ones_before-low_digits_above k n p q i fits within =
    omega (arith, ones_before-low_digits_split k n p i (omega arith), ones_before-low_digits_part n p q i within)

-- ---- what a rank picks

-- where the next count passes r, the digit is the one that r picks
pub picked_in_digits : (k n r p : ℕ) → p < k → ones_before (low_digits k n) p ≤ r → r < ones_before (low_digits k n) (p + 1)
    → Picks (low_digits k n) true r p
picked_in_digits k n r p inside low high =
    let more = ones_before-low_digits_more k n p inside in
    let one : bit_at n p ≡ 1 = omega (arith, bit_at-lt n p) in
    record {
      inside = omega (arith, length-low_digits k n);
      item = item-low_digits k n p inside ∙ ap (λ d. d == 1) one;
      before = omega (arith, one);
    }

-- over the position that a rank picks, the count rises by one
pub ones_before-picked : (k n r p : ℕ) → Picks (low_digits k n) true r p → ones_before (low_digits k n) (p + 1) ≡ r + 1
ones_before-picked k n r p there =
    omega (arith, ones_before_more (low_digits k n) p there.inside, ap truth there.item, there.before)

-- what is picked among the q digits above p is picked by the rank with the ones below p
pub picked_above : (k n p q r i : ℕ) → p + q ≤ k → ones_before (low_digits k n) p ≤ r
    → Picks (low_digits q (n / 2 ^ p % 2 ^ q)) true (r - ones_before (low_digits k n) p) i → Picks (low_digits k n) true r (p + i)
picked_above k n p q r i fits low there =
    let part = n / 2 ^ p % 2 ^ q in
    let inside : i < q = omega (arith, there.inside, length-low_digits q part) in
    let next : p + (i + 1) ≡ p + i + 1 = omega arith in
    picked_in_digits k n r (p + i) (omega arith)
    (omega (arith, ones_before-low_digits_above k n p q i fits (omega arith), there.before))
    (omega (
      arith,
      ones_before-low_digits_above k n p q (i + 1) fits (omega arith),
      ones_before-picked q part (r - ones_before (low_digits k n) p) i there,
      ap (ones_before (low_digits k n)) next,
    ))

-- ---- for callers that walk over words

-- the ones of a word are what `count_ones` answers (a name that an attribute can write)
pub ones_of_word : (n : ℕ) → n < 2 ^ 64 → ones_before (low_digits 64 n) 64 ≡ count_ones n
ones_of_word n fits = ones_before-low_digits 64 64 n (le_refl 64) ∙ ap count_ones (mod-eq_of_lt fits)

-- a rank below the number of ones picks a position
pub rank_in_word : (n r : ℕ) → n < 2 ^ 64 → r < count_ones n → r < ones_before (low_digits 64 n) 64
rank_in_word n r fits below = omega (arith, ones_of_word n fits)

-- the ones below the position that a rank picks, and with that position
pub count_ones-picked : (n r p : ℕ) → Picks (low_digits 64 n) true r p → count_ones (n % 2 ^ p) ≡ r
count_ones-picked n r p there =
    omega (arith, ones_before-low_digits 64 p n (omega (arith, there.inside, length-low_digits 64 n)), there.before)

pub count_ones-picked_too : (n r p : ℕ) → Picks (low_digits 64 n) true r p → count_ones (n % 2 ^ (p + 1)) ≡ r + 1
count_ones-picked_too n r p there =
    omega (
      arith,
      ones_before-low_digits 64 (p + 1) n (omega (arith, there.inside, length-low_digits 64 n)),
      ones_before-picked 64 n r p there,
    )
