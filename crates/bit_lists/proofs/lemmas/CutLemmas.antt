-- Counts and picks in a stretch of items, in runs of equal ones, and in lists that agree; the bits of joined contents.
use Rattle.std.proofs.Common.{◌≡◌, ◌≢◌, ℕ, zero, suc, ◌+◌, ◌-◌, ◌*◌, ◌/◌, ◌%◌, ◌<◌, ◌≤◌, ◌↔◌, Bool, true, false, not, List, [], ◌∷◌, ◌++◌, length, take, drop, count_by, refl, sym, ap, ◌∙◌, ⊎_elim, arith, length-take, length-drop, length-append, append_assoc, inl, inr}
use Rattle.std.proofs.lemmas.Bool.{cases_lt}
use Rattle.std.proofs.lemmas.List.{get_or-take, get_or-drop}
use Rattle.bit_lists.proofs.lemmas.BesideLemmas.{item-with_number_beside}
use Rattle.bit_lists.proofs.lemmas.BitsLemmas.{bits_of-cons, bits_of-nil}
use Rattle.bit_lists.proofs.lemmas.CountLemmas.{count_before_more, count_before-none, count_before-le, ones_before-add-zeros_before}
use Rattle.bit_lists.proofs.lemmas.NumberLemmas.{item-with_number_inside}
use Rattle.bit_lists.proofs.lemmas.PickLemmas.{from-Picks}
use Rattle.bit_lists.proofs.lemmas.WordLemmas.{truth}
use Rattle.bit_lists.specs.Bits.{bits_of, digit, item, low_digits}
use Rattle.bit_lists.specs.Count.{ones_before, zeros_before, count_before, is_same, Picks}
use Rattle.bit_lists.specs.Number.{with_number}
use Rattle.bit_lists.specs.StretchLaws.{stretch}

pub item-stretch : (b : List Bool) (k n i : ℕ) → i < n → item (stretch b k n) i ≡ item b (k + i)
item-stretch b k n i within = get_or-take n (drop k b) i false within ∙ get_or-drop k b i false

length-stretch : (b : List Bool) (k n : ℕ) → k + n ≤ length b → length (stretch b k n) ≡ n
length-stretch b k n within = omega (arith, length-take n (drop k b), length-drop k b)

pub same_count : (b c : List Bool) (v : Bool) (k : ℕ) → k ≤ length b → k ≤ length c → ((i : ℕ) → i < k → item b i ≡ item c i)
    → count_before b v k ≡ count_before c v k
same_count b c v zero in_b in_c same = count_before-none b v ∙ sym (count_before-none c v)
same_count b c v (suc k) in_b in_c same =
    let e : suc k ≡ k + 1 = omega arith in
    ap (count_before b v) e
    ∙ count_before_more v b k (omega arith)
    ∙ ap (λ (n : ℕ). n + truth (is_same v (item b k))) (same_count b c v k (omega arith) (omega arith) (λ i l. same i (omega (arith, l))))
    ∙ ap (λ (x : Bool). count_before c v k + truth (is_same v x)) (same k (omega arith))
    ∙ sym (ap (count_before c v) e ∙ count_before_more v c k (omega arith))

pub cut_count : (b : List Bool) (v : Bool) (k n i : ℕ) → k + n ≤ length b → i ≤ n
    → count_before b v k + count_before (stretch b k n) v i ≡ count_before b v (k + i)
cut_count b v k n zero within to =
    let e : k + 0 ≡ k = omega arith in
    omega (arith, count_before-none (stretch b k n) v, ap (count_before b v) e)
cut_count b v k n (suc i) within to =
    let e : suc i ≡ i + 1 = omega arith in
    let f : k + suc i ≡ k + i + 1 = omega arith in
    omega (
      arith,
      cut_count b v k n i within (omega arith),
      ap (count_before (stretch b k n) v) e,
      count_before_more v (stretch b k n) i (omega (arith, length-stretch b k n within)),
      ap (count_before b v) f,
      count_before_more v b (k + i) (omega arith),
      ap (λ (x : Bool). truth (is_same v x)) (item-stretch b k n i (omega arith)),
    )

pub cut_pick : (b : List Bool) (v : Bool) (k n r p : ℕ) → k + n ≤ length b → p < n
    → Picks (stretch b k n) v r p ↔ Picks b v (count_before b v k + r) (k + p)
cut_pick b v k n r p within inside =
    let count = cut_count b v k n p within (omega (arith, inside)) in (
      λ here. record {
        inside = omega (arith, within, inside);
        item = sym (item-stretch b k n p inside) ∙ here.item;
        before = omega (arith, count, here.before);
      },
      λ there. record {
        inside = omega (arith, length-stretch b k n within, inside);
        item = item-stretch b k n p inside ∙ there.item;
        before = omega (arith, count, there.before);
      },
    )

pub same_items : (b : List Bool) (v : Bool) (i : ℕ) → count_before b v i ≡ count_by (is_same v) (take i b)
unfolding ones_before zeros_before
same_items b true i = refl
same_items b false i = refl

pub rank_between : (b : List Bool) (v : Bool) (from to r p : ℕ) → count_before b v from ≤ r → r < count_before b v to → Picks b v r p
    → (from ≤ p) × (p < to)
rank_between b v from to r p least most picked = (
  from-Picks b v from r p least picked,
  ⊎_elim (λ less. less) (λ past. absurd (omega (arith, count_before-le b v to p past, picked.before, most))) (cases_lt p to),
)

truth-same : (v x : Bool) → x ≡ v → truth (is_same v x) ≡ 1
truth-same true true e = refl
truth-same true false e = cc
truth-same false true e = cc
truth-same false false e = refl

pub run_count : (b : List Bool) (v : Bool) (p n : ℕ) → p + n ≤ length b → ((i : ℕ) → p ≤ i → i < p + n → item b i ≡ v)
    → count_before b v (p + n) ≡ count_before b v p + n
run_count b v p zero within all =
    let e : p + 0 ≡ p = omega arith in
    omega (arith, ap (count_before b v) e)
run_count b v p (suc n) within all =
    let e : p + suc n ≡ p + n + 1 = omega arith in
    omega (
      arith,
      ap (count_before b v) e,
      count_before_more v b (p + n) (omega arith),
      run_count b v p n (omega arith) (λ i from to. all i from (omega (arith, to))),
      truth-same v (item b (p + n)) (all (p + n) (omega arith) (omega arith)),
    )

both_kinds : (b : List Bool) (v : Bool) (i : ℕ) → i ≤ length b → count_before b v i + count_before b (not v) i ≡ i
both_kinds b true i l = ones_before-add-zeros_before b i l
both_kinds b false i l = omega (arith, ones_before-add-zeros_before b i l)

pub run_count_other : (b : List Bool) (v : Bool) (p n : ℕ) → p + n ≤ length b
    → ((i : ℕ) → p ≤ i → i < p + n → item b i ≡ v) → count_before b (not v) (p + n) ≡ count_before b (not v) p
run_count_other b v p n within all =
    omega (arith, run_count b v p n within all, both_kinds b v (p + n) within, both_kinds b v p (omega arith))

pub bits_of-append : (first second : List ℕ) → bits_of (first ++ second) ≡ bits_of first ++ bits_of second
bits_of-append [] second = ap (λ (b : List Bool). b ++ bits_of second) (sym bits_of-nil)
bits_of-append (w ∷ first) second =
    bits_of-cons w (first ++ second)
    ∙ ap (λ (b : List Bool). low_digits 64 w ++ b) (bits_of-append first second)
    ∙ sym (append_assoc (low_digits 64 w) (bits_of first) (bits_of second))
    ∙ ap (λ (b : List Bool). b ++ bits_of second) (sym (bits_of-cons w first))

pub written_alone : (b : List Bool) (i v : ℕ) → i < length b
    → (item (with_number b i 1 v) i ≡ digit v 0) × ((q : ℕ) → q ≢ i → item (with_number b i 1 v) q ≡ item b q)
written_alone b i v inside =
    let e : i + 0 ≡ i = omega arith in (
      ap (λ (k : ℕ). item (with_number b i 1 v) k) (sym e) ∙ item-with_number_inside b i 1 v 0 (omega (arith, inside)) (omega arith),
      λ q apart. ⊎_elim
          (λ less. item-with_number_beside b i 1 v q (omega (arith, inside)) (inl less))
          (λ least. item-with_number_beside b i 1 v q (omega (arith, inside)) (inr (⊎_elim
          (λ (more : i < q). omega (arith, more)) (λ (most : q ≤ i). absurd (apart (omega (arith, least, most)))) (cases_lt i q))))
          (cases_lt q i),
    )
