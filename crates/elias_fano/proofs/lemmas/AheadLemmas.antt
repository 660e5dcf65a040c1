-- Digits ahead: read, and what a step leaves of them.
use Rattle.std.proofs.Common.{◌≡◌, ℕ, ◌+◌, ◌-◌, ◌*◌, ◌/◌, ◌%◌, ◌^◌, ◌<◌, ◌≤◌, Bool, List, length, get_or, bit_and, min, sym, ap, ◌∙◌, arith, subst}
use Rattle.bit_lists.proofs.BitLaws.{no_items_are_zero}
use Rattle.std.proofs.Math.Nat.{min-le_left}
use Rattle.std.proofs.lemmas.Nat.{shr_below}
use Rattle.std.proofs.lemmas.Nat.Bits.{same_from_bits_below}
use Rattle.bit_lists.proofs.lemmas.BitsLemmas.{length-bits_of}
use Rattle.bit_lists.proofs.lemmas.NumberLemmas.{number_at-lt, bit_at-number_at}
use Rattle.bit_lists.proofs.lemmas.ReadLemmas.{number_at_masked, reach_of_room}
use Rattle.bit_lists.proofs.lemmas.WordLemmas.{truth, bit_at-shr}
use Rattle.bit_lists.specs.Bits.{bits_of, item}
use Rattle.bit_lists.specs.Number.{number_at, IsInRange}
use Rattle.bit_lists.specs.Window.{reach_of}
use Rattle.elias_fano.proofs.lemmas.ItemLemmas.{parts-fragments, upper-short, position-after, held-is, held-fits}
use Rattle.elias_fano.specs.Ahead.{IsAhead, ReadsAhead}
use Rattle.elias_fano.specs.Low.{unread, HasFragments}
use Rattle.elias_fano.specs.Parts.{ArePartsOf, HasOneAt}

-- without its lowest digits, a number is the one that stands after these
number_at-shifted : (b : List Bool) (s w n : ℕ) → s + (n + w) ≤ length b
    → number_at b s (n + w) / 2 ^ w ≡ number_at b (s + w) n
number_at-shifted b s w n within =
    same_from_bits_below n (number_at b s (n + w) / 2 ^ w) (number_at b (s + w) n)
    (shr_below (number_at b s (n + w)) n w (number_at-lt b s (n + w) within))
    (number_at-lt b (s + w) n (omega arith))
    (λ k small.
    let there : s + (w + k) ≡ s + w + k = omega arith in
    bit_at-shr (number_at b s (n + w)) w k (w + k) (omega arith)
    ∙ bit_at-number_at b s (n + w) (w + k) (omega arith)
    ∙ ap (λ p. truth (item b p)) there
    ∙ sym (bit_at-number_at b (s + w) n k small))

times-le : (a b l : ℕ) → a ≤ b → a * l ≤ b * l
times-le a b l order = grind arith

-- ---- a read of several fragments

module _ (low : List ℕ) (l i end count : ℕ) (fits : end * l ≤ 64 * length low) (order : i + count ≤ end) (some : 1 ≤ count)
    (width : 1 ≤ l) where
  room : i * l + count * l ≤ 64 * length low
  room =
      let both : i * l + count * l ≡ (i + count) * l = grind arith in
      let e : (i + count) * l ≤ end * l = times-le (i + count) end l order in
      omega arith

  pub read-in-range : IsInRange low (i * l) (count * l)
  read-in-range =
      let e : 1 ≤ count * l = grind arith in
      (omega (arith, room), room)

  pub IsAhead-read : (v : ℕ) → count * l ≤ 64 → v ≡ number_at (bits_of low) (i * l) (reach_of (i * l) (count * l))
      → IsAhead low l i end (i + count) v
  IsAhead-read v small is =
      let reach = reach_of_room low (i * l) (count * l) read-in-range small in
      let many : i + count - i ≡ count = omega arith in
      record {
        len = reach_of (i * l) (count * l);
        order = omega arith;
        within = order;
        enough = omega (arith, ap (λ k. k * l) many, reach.0);
        inside = reach.1;
        is = is;
      }

-- ---- so many digits as one read gives

pub few-enough : (count most l : ℕ) → count ≤ most → most * l ≤ 64 → count * l ≤ 64
few-enough count most l few fit =
    omega (arith, times-le count most l few)

-- ---- a step

module _ (low : List ℕ) (l i end until digits : ℕ) (h : IsAhead low l i end until digits) (some : i < until) where
  enough-for-one : l ≤ h.len
  enough-for-one =
      let e : l ≤ (until - i) * l = grind arith in
      omega (arith, h.enough)

  -- the lowest digits are those of the next item
  pub lowest-ahead : bit_and digits (2 ^ l - 1) ≡ number_at (bits_of low) (i * l) l
  lowest-ahead =
      ap (λ d. bit_and d (2 ^ l - 1)) h.is
      ∙ number_at_masked low (i * l) h.len l enough-for-one (omega (arith, enough-for-one, h.inside))

  -- and the others those of the items after it
  pub IsAhead-first : IsAhead low l (i + 1) end until (digits / 2 ^ l)
  IsAhead-first =
      let n = h.len - l in
      let whole : n + l ≡ h.len = omega (arith, enough-for-one) in
      let next : i * l + l ≡ (i + 1) * l = grind arith in
      let k = until - (i + 1) in
      let one_more : k + 1 ≡ until - i = omega arith in
      let product : k * l + l ≡ (k + 1) * l = grind arith in
      let fewer : k * l + l ≡ (until - i) * l = product ∙ ap (λ j. j * l) one_more in
      record {
        len = n;
        order = omega arith;
        within = h.within;
        enough = omega (arith, fewer, h.enough, whole);
        inside = omega (arith, next, whole, h.inside);
        is =
            ap (λ d. d / 2 ^ l) (h.is ∙ ap (number_at (bits_of low) (i * l)) (sym whole))
            ∙ number_at-shifted (bits_of low) (i * l) l n (omega (arith, whole, h.inside, length-bits_of low))
            ∙ ap (λ s. number_at (bits_of low) s n) next;
      }

-- ---- no digits

pub IsAhead-nothing : (xs : List ℕ) (n l : ℕ) (low upper : List ℕ) (i end until digits : ℕ) → ArePartsOf xs n l low upper → i ≤ end
    → end ≤ n → until ≡ i → digits ≡ 0 → IsAhead low l i end until digits
IsAhead-nothing xs n l low upper i end until digits h order within here none =
    let fits = (parts-fragments xs n (unread low l) upper h).inside in
    let e : i * l ≤ n * l = times-le i n l (omega arith) in
    let nothing : until - i ≡ 0 = omega arith in
    record {
      len = 0;
      order = omega arith;
      within = omega arith;
      enough = omega (arith, ap (λ k. k * l) nothing);
      inside = omega arith;
      is = none ∙ sym (no_items_are_zero (bits_of low) (i * l));
    }

pub ReadsAhead-none : (xs : List ℕ) (n l : ℕ) (low upper : List ℕ) (most i j end until old digits none : ℕ)
    → ArePartsOf xs n l low upper → ReadsAhead low l most i end old digits → j ≤ end → end ≤ n → until ≡ j → none ≡ 0
    → ReadsAhead low l most j end until none
ReadsAhead-none xs n l low upper most i j end until old digits none parts h order within here is = record {
  fit = h.fit;
  some = h.some;
  ahead = λ _. IsAhead-nothing xs n l low upper j end until none parts order within here is;
}

-- ---- fewer items

pub IsAhead-fewer : (low : List ℕ) (l i end until digits fewer : ℕ) → IsAhead low l i end until digits → i ≤ fewer
    → IsAhead low l i fewer (min until fewer) digits
IsAhead-fewer low l i end until digits fewer h order =
    let m = min until fewer in
    let e : (m - i) * l ≤ (until - i) * l = times-le (m - i) (until - i) l (omega (arith, min-le_left until fewer)) in
    record {
      len = h.len;
      order = omega (arith, h.order);
      within = omega arith;
      enough = omega (arith, h.enough);
      inside = h.inside;
      is = h.is;
    }

pub ReadsAhead-fewer : (low : List ℕ) (l most i end until digits fewer less : ℕ) → ReadsAhead low l most i end until digits
    → i ≤ fewer → less ≡ min until fewer → ReadsAhead low l most i fewer less digits
ReadsAhead-fewer low l most i end until digits fewer less h order is =
    let P : ℕ → Type 0 = λ u. ReadsAhead low l most i fewer u digits in
    subst P (sym is) record {
      fit = h.fit;
      some = h.some;
      ahead = λ many. IsAhead-fewer low l i end until digits fewer (h.ahead many) order;
    }

-- ---- the items' fragments, and an item from its own

module _ (xs : List ℕ) (n l : ℕ) (low upper : List ℕ) (h : ArePartsOf xs n l low upper) where
  pub fragments-to : (end : ℕ) → end ≤ n → HasFragments (unread low l) end
  fragments-to end within =
      let all = parts-fragments xs n (unread low l) upper h in
      record { width = all.width; short = omega (arith, all.short); inside = omega (arith, times-le end n l within, all.inside) }

-- the value of `position - i << l` and a fragment added, each as the machine computes it
pub joined-ahead : (xs : List ℕ) (n l : ℕ) (low upper : List ℕ) (i p digits : ℕ) → HasOneAt xs n l low upper i p
    → digits ≡ number_at (bits_of low) (i * l) l
    → ((p + (2 ^ 64 - i)) % 2 ^ 64 * 2 ^ l % 2 ^ 64 + digits) % 2 ^ 64 ≡ get_or xs i 0
joined-ahead xs n l low upper i p digits h is =
    let few = upper-short xs n l low upper h.parts in
    let fits : p < 2 ^ 64 = omega (arith, h.one.inside, length-bits_of upper, few) in
    let above : (p + (2 ^ 64 - i)) % 2 ^ 64 ≡ p - i = omega (arith, fits, position-after xs n l low upper i p h) in
    let scaled : (p + (2 ^ 64 - i)) % 2 ^ 64 * 2 ^ l ≡ (p - i) * 2 ^ l = ap (λ k. k * 2 ^ l) above in
    omega (arith, scaled, is, held-is xs n l low upper i p h, held-fits xs n l low upper i p h)
