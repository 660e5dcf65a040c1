-- Eight words that are halved: where the item of a rank is among those that are left.
use Rattle.std.proofs.Common.{◌≡◌, ℕ, ◌+◌, ◌-◌, ◌*◌, ◌%◌, ◌^◌, ◌<◌, ◌≤◌, Bool, List, length, count_ones, ap, subst, arith, inl, inr}
use Rattle.std.proofs.lemmas.Bool.{cases_lt}
use Rattle.bit_lists.specs.Count.{as_bit, ones_before}
use Rattle.bitm_select.specs.Search.{sought_in, IsWord}
use Rattle.bitm_tables.specs.Tables.{Lists}
use Rattle.bitm_select.proofs.lemmas.MarkLemmas.{sought_bits-long, word_counts}

-- the items of a word are those between its ends
abbrev pub HasItems : ℕ → Lists → ℕ → ℕ → Type 0
HasItems bit lists k count =
    ones_before (sought_in bit lists.words) (64 * k) + count ≡ ones_before (sought_in bit lists.words) (64 * (k + 1))

pub word_items : (bit : ℕ) (lists : Lists) (k w : ℕ) → k < length lists.words → w < 2 ^ 64 → IsWord (sought_in bit lists.words) k w
    → HasItems bit lists k (count_ones w)
word_items bit lists k w inside fits is =
    let m = sought_in bit lists.words in
    let e : 64 * k + 64 ≡ 64 * (k + 1) = omega arith in
    let whole : w % 2 ^ 64 ≡ w = omega (arith, fits) in
    let counts = word_counts m k w (sought_bits-long lists.words (as_bit bit) k inside) is 64 (omega arith) in
    omega (arith, ap (ones_before m) e, counts, ap count_ones whole)

-- the items of two words side by side, and of four
pub two_items : (bit : ℕ) (lists : Lists) (k a b : ℕ) → HasItems bit lists k a → HasItems bit lists (k + 1) b
    → ones_before (sought_in bit lists.words) (64 * k) + (a + b) ≡ ones_before (sought_in bit lists.words) (64 * (k + 2))
two_items bit lists k a b first second =
    let e : k + 1 + 1 ≡ k + 2 = omega arith in
    omega (arith, first, second, ap (λ (n : ℕ). ones_before (sought_in bit lists.words) (64 * n)) e)

pub four_items : (bit : ℕ) (lists : Lists) (k a b c d : ℕ) → HasItems bit lists k a → HasItems bit lists (k + 1) b
    → HasItems bit lists (k + 2) c → HasItems bit lists (k + 3) d
    → ones_before (sought_in bit lists.words) (64 * k) + (a + b + c + d) ≡ ones_before (sought_in bit lists.words) (64 * (k + 4))
four_items bit lists k a b c d first second third fourth =
    let three : k + 3 ≡ k + 2 + 1 = omega arith in
    let four : k + 2 + 2 ≡ k + 4 = omega arith in
    let next = two_items bit lists (k + 2) c d third (subst (λ (n : ℕ). HasItems bit lists n d) three fourth) in
    omega (
      arith,
      two_items bit lists k a b first second,
      next,
      ap (λ (n : ℕ). ones_before (sought_in bit lists.words) (64 * n)) four,
    )

-- also where a call left the lists as they were
pub items_before : (bit : ℕ) (old new : Lists) (k count : ℕ) → new ≡ old → HasItems bit new k count → HasItems bit old k count
items_before bit old new k count same items = subst (λ (l : Lists). HasItems bit l k count) same items

-- the item of rank r is not before word at, where rest of them are left, nor behind the words that are left, unless
-- these are the last before word end
pub record IsRun (m : List Bool) (r end at rest left : ℕ) : Type 0 where
  pub total : r ≡ ones_before m (64 * at) + rest
  pub bound : at + left ≤ end
  pub next : at + left < end → r < ones_before m (64 * (at + left))

-- the half of the words that are left which the count of the first half shows
pub run_passes : (m : List Bool) (r end at rest w count : ℕ) (new : ℕ × ℕ) → IsRun m r end at rest (w + w)
    → ones_before m (64 * at) + count ≡ ones_before m (64 * (at + w))
    → (count ≤ rest → (new.0 ≡ at + w) × (new.1 ≡ rest - count)) → (rest < count → (new.0 ≡ at) × (new.1 ≡ rest))
    → IsRun m r end new.0 new.1 w
run_passes m r end at rest w count new run counts passed stays =
    elim (cases_lt rest count) [
      | inl above ↦
          let s = stays above in
          let e = ap (λ (n : ℕ). ones_before m (64 * n)) s.0 in
          let f = ap (λ (n : ℕ). ones_before m (64 * (n + w))) s.0 in
          record {
            total = omega (arith, run.total, e, s.1);
            bound = omega (arith, run.bound, s.0);
            next = λ _. omega (arith, run.total, counts, above, f);
          }
      | inr over ↦
          let p = passed over in
          let e = ap (λ (n : ℕ). ones_before m (64 * n)) p.0 in
          let all : new.0 + w ≡ at + (w + w) = omega (arith, p.0) in
          let f = ap (λ (n : ℕ). ones_before m (64 * n)) all in
          record {
            total = omega (arith, run.total, counts, over, e, p.1);
            bound = omega (arith, run.bound, p.0);
            next = λ h. omega (arith, run.next (omega (arith, h, all)), f);
          }
    ]

-- where the one word that is left has no more than the rest, it is the last
pub run_ends : (m : List Bool) (r end at rest : ℕ) → IsRun m r end at rest 1 → ones_before m (64 * (at + 1)) ≤ r
    → ones_before m (64 * end) ≤ r
run_ends m r end at rest run passed =
    elim (cases_lt (at + 1) end) [
      | inl before ↦ absurd (omega (arith, run.next before, passed))
      | inr over ↦
          let same : at + 1 ≡ end = omega (arith, over, run.bound) in
          omega (arith, passed, ap (λ (n : ℕ). ones_before m (64 * n)) same)
    ]
