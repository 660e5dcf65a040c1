-- Zeros that have more ones before them than zeros: among the digits of a number, and what a byte needs.
use Rattle.std.proofs.Common.{◌≡◌, ℕ, zero, suc, ◌+◌, ◌-◌, ◌*◌, ◌/◌, ◌%◌, ◌^◌, ◌<◌, ◌≤◌, count_ones, max, sym, ap, ◌∙◌, ⊎_elim, subst, arith, add_comm, mod-eq_of_lt}
use Rattle.std.proofs.lemmas.Bool.{cases_lt}
use Rattle.std.proofs.lemmas.Nat.{field_of, mod-pow-add, ones_cat, pow_pos, shr-shr}
use Rattle.std.proofs.lemmas.Nat.Bits.{bit_at-lt}
use Rattle.std.proofs.Math.Pow.{mod-mod-pow}
use Rattle.std.specs.Int.{bit_at}
use Rattle.bit_lists.proofs.lemmas.CountLemmas.{count_ones_more}
use Rattle.tree_block.specs.Check.{KeepsLead}

-- ---- the ones below a position

-- those of the k lowest digits, and of the j above these
pub ones_above : (v k j : ℕ) → count_ones (v % 2 ^ (k + j)) ≡ count_ones (v % 2 ^ k) + count_ones (v / 2 ^ k % 2 ^ j)
ones_above v k j =
    ap (λ e. count_ones (v % 2 ^ e)) (add_comm k j)
    ∙ ap count_ones (mod-pow-add v j k)
    ∙ ones_cat k (v / 2 ^ k % 2 ^ j) (v % 2 ^ k) (omega (arith, pow_pos k))
    ∙ add_comm (count_ones (v / 2 ^ k % 2 ^ j)) (count_ones (v % 2 ^ k))

-- ---- more and more digits

pub keeps_none : (v lead : ℕ) → KeepsLead v 0 lead
keeps_none v lead = λ j inside zero_here. absurd (omega (arith, inside))

pub keeps_fewer : (v m n lead : ℕ) → m ≤ n → KeepsLead v n lead → KeepsLead v m lead
keeps_fewer v m n lead within keeps = λ j inside zero_here. keeps j (omega (arith, inside, within)) zero_here

-- a one more, or a zero that stands right
pub keeps_one_more : (v m lead : ℕ) → KeepsLead v m lead → (bit_at v m ≡ 0 → m < lead + 2 * count_ones (v % 2 ^ m)) → KeepsLead v (m + 1) lead
keeps_one_more v m lead keeps here = λ j inside zero_here.
    ⊎_elim
    (λ before. keeps j before zero_here)
    (λ last. let e : m ≡ j = omega (arith, inside, last) in
    subst (λ i. bit_at v i ≡ 0 → i < lead + 2 * count_ones (v % 2 ^ i)) e here zero_here)
    (cases_lt j m)

-- so there are no fewer ones than zeros
pub lead_is_left : (v m lead : ℕ) → KeepsLead v m lead → m ≤ lead + 2 * count_ones (v % 2 ^ m)
lead_is_left v zero lead keeps = omega arith
lead_is_left v (suc m) lead keeps =
    let step : suc m ≡ m + 1 = omega arith in
    let more = ap (λ e. count_ones (v % 2 ^ e)) step ∙ count_ones_more v m in
    let before = lead_is_left v m lead (keeps_fewer v m (suc m) lead (omega arith) keeps) in
    ⊎_elim
    (λ none. let here = keeps m (omega arith) (omega (arith, none)) in omega (arith, more, here))
    (λ one. omega (arith, more, before, one))
    (cases_lt (bit_at v m) 1)

-- the digit before digit m; 0 where there is none
abbrev last_digit : ℕ → ℕ → ℕ
last_digit v zero = 0
last_digit v (suc m) = bit_at v m

-- where y has a one at each zero of v that is not right after a one, there are no fewer ones than zeros up to a position,
-- but for the ones of y; one more where a one is the last digit
module _ (v y : ℕ) (first : bit_at v 0 ≡ 0 → bit_at y 0 ≡ 1) (next : (k : ℕ) → k + 1 < 64 → bit_at v (k + 1) ≡ 0 → bit_at v k ≡ 0 → bit_at y (k + 1) ≡ 1) where
  alone : (m : ℕ) → m < 64 → bit_at v m ≡ 0 → last_digit v m ≡ 0 → bit_at y m ≡ 1
  alone zero inside here before = first here
  alone (suc k) inside here before =
      let step : k + 1 ≡ suc k = omega arith in
      ap (bit_at y) (sym step) ∙ next k (omega (arith, inside)) (ap (bit_at v) step ∙ here) before

  paired : (m : ℕ) → m ≤ 64 → m + last_digit v m ≤ 2 * count_ones (v % 2 ^ m) + count_ones (y % 2 ^ m)
  paired zero within = omega arith
  paired (suc m) within =
      let step : suc m ≡ m + 1 = omega arith in
      let ones = ap (λ e. count_ones (v % 2 ^ e)) step ∙ count_ones_more v m in
      let lone = ap (λ e. count_ones (y % 2 ^ e)) step ∙ count_ones_more y m in
      let before = paired m (omega (arith, within)) in
      let small = bit_at-lt v m in
      ⊎_elim
      (λ none.
      ⊎_elim
      (λ no_one. omega (arith, before, ones, lone, small, none, alone m (omega (arith, within)) (omega (arith, none)) (omega (arith, no_one))))
      (λ one. omega (arith, before, ones, lone, small, none, one))
      (cases_lt (last_digit v m) 1))
      (λ one. omega (arith, before, ones, lone, small, one))
      (cases_lt (bit_at v m) 1)

  pub keeps_where_paired : (lead : ℕ) → y < 2 ^ 64 → count_ones y ≤ lead → KeepsLead v 64 lead
  keeps_where_paired lead fits enough = λ j inside zero_here.
      let before = paired j (omega (arith, inside)) in
      let more = count_ones_more y j in
      let rest : j + 1 + (63 - j) ≡ 64 = omega (arith, inside) in
      let all = ones_above y (j + 1) (63 - j) in
      let whole : y % 2 ^ 64 ≡ y = mod-eq_of_lt fits in
      let few = ap (λ e. count_ones (y % 2 ^ e)) rest ∙ ap count_ones whole in
      ⊎_elim
      (λ no_one. omega (arith, before, more, all, few, enough, alone j inside zero_here (omega (arith, no_one))))
      (λ one. omega (arith, before, more, all, few, enough, one))
      (cases_lt (last_digit v j) 1)

-- ---- digits above others

-- digit j above k digits
pub digit_above : (v k j n : ℕ) → j < n → bit_at (v / 2 ^ k % 2 ^ n) j ≡ bit_at v (k + j)
digit_above v k j n inside =
    let d = n - j - 1 in
    let cut : n ≡ d + 1 + j = omega (arith, inside) in
    ap (λ e. v / 2 ^ k % 2 ^ e / 2 ^ j % 2) cut
    ∙ ap (λ m. m % 2) (field_of (v / 2 ^ k) (d + 1) j)
    ∙ mod-mod-pow (v / 2 ^ k / 2 ^ j) d 1
    ∙ ap (λ m. m % 2) (shr-shr v k j)

-- what is below the position too
pub below_above : (v k j n : ℕ) → j ≤ n → count_ones (v / 2 ^ k % 2 ^ n % 2 ^ j) ≡ count_ones (v / 2 ^ k % 2 ^ j)
below_above v k j n within =
    let cut : n ≡ n - j + j = omega (arith, within) in
    ap (λ e. count_ones (v / 2 ^ k % 2 ^ e % 2 ^ j)) cut ∙ ap count_ones (mod-mod-pow (v / 2 ^ k) (n - j) j)

module _ (v k n lead left : ℕ) (same : left + k ≡ lead + 2 * count_ones (v % 2 ^ k)) where
  pub keeps_above : KeepsLead v k lead → KeepsLead (v / 2 ^ k % 2 ^ n) n left → KeepsLead v (k + n) lead
  keeps_above low high = λ j inside zero_here.
      ⊎_elim
      (λ before. low j before zero_here)
      (λ from. let e : k + (j - k) ≡ j = omega (arith, from) in
      let i = j - k in
      let here = high i (omega (arith, inside, from, e)) (digit_above v k i n (omega (arith, inside, e)) ∙ ap (bit_at v) e ∙ zero_here) in
      omega (arith, here, e, same, below_above v k i n (omega (arith, inside, e)), ones_above v k i, ap (λ m. count_ones (v % 2 ^ m)) e))
      (cases_lt j k)

  pub above_keeps : KeepsLead v (k + n) lead → KeepsLead (v / 2 ^ k % 2 ^ n) n left
  above_keeps keeps = λ i inside zero_here.
      let here = keeps (k + i) (omega (arith, inside)) (sym (digit_above v k i n inside) ∙ zero_here) in
      omega (arith, here, same, below_above v k i n (omega (arith, inside)), ones_above v k i)

-- ---- what a number of digits needs

-- what a digit needs: nothing where it is a one
abbrev pub needed_by : ℕ → ℕ → ℕ
needed_by zero lead = lead
needed_by (suc d) lead = 0

-- the least lead that the m lowest digits of v keep
abbrev pub needed : ℕ → ℕ → ℕ
needed v zero = 0
needed v (suc m) = max (needed v m) (needed_by (bit_at v m) (m + 1 - 2 * count_ones (v % 2 ^ m)))

needed_by_zero : (d x lead : ℕ) → needed_by d x ≤ lead → d ≡ 0 → x ≤ lead
needed_by_zero zero x lead within none = within
needed_by_zero (suc d) x lead within none = absurd (omega (arith, none))

needed_by-le : (d x lead : ℕ) → (d ≡ 0 → x ≤ lead) → needed_by d x ≤ lead
needed_by-le zero x lead within = within (omega arith)
needed_by-le (suc d) x lead within = omega arith

pub kept_from_needed : (v m lead : ℕ) → needed v m ≤ lead → KeepsLead v m lead
kept_from_needed v zero lead within = keeps_none v lead
kept_from_needed v (suc m) lead within =
    let step : m + 1 ≡ suc m = omega arith in
    let own = needed_by (bit_at v m) (m + 1 - 2 * count_ones (v % 2 ^ m)) in
    let both : (needed v m ≤ lead) × (own ≤ lead) = (omega (arith, within), omega (arith, within)) in
    subst (λ i. KeepsLead v i lead) step
    (keeps_one_more v m lead (kept_from_needed v m lead both.0)
    (λ none. let few = needed_by_zero (bit_at v m) (m + 1 - 2 * count_ones (v % 2 ^ m)) lead both.1 none in omega (arith, few)))

pub needed_from_kept : (v m lead : ℕ) → KeepsLead v m lead → needed v m ≤ lead
needed_from_kept v zero lead keeps = omega arith
needed_from_kept v (suc m) lead keeps =
    let before = needed_from_kept v m lead (keeps_fewer v m (suc m) lead (omega arith) keeps) in
    let own = needed_by-le (bit_at v m) (m + 1 - 2 * count_ones (v % 2 ^ m)) lead (λ none. let here = keeps m (omega arith) none in omega (arith, here)) in
    omega (arith, before, own)
