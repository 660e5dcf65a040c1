-- Bits of one kind in order: none stands between a position and the first one from there on; tables that are filled item by item.
use Rattle.std.proofs.Common.{◌≡◌, ◌≢◌, ℕ, zero, suc, ◌+◌, ◌-◌, ◌<◌, ◌≤◌, Bool, true, false, not, List, length, slice_index, slice_set, ap, subst, sym, ◌∙◌, refl, inl, inr, arith}
use Rattle.std.proofs.lemmas.Bool.{cases_lt}
use Rattle.std.proofs.lemmas.Grind.{get_or-set_at}
use Rattle.std.proofs.lemmas.List.{get_or-set_other}
use Rattle.bit_lists.proofs.lemmas.CountLemmas.{count_before-le, count_before_more, count_before_past}
use Rattle.bit_lists.proofs.lemmas.WordLemmas.{truth}
use Rattle.bit_lists.specs.Bits.{item}
use Rattle.bit_lists.specs.Count.{count_before, count_of, is_same, Picks, IsFirstFrom}

-- a bit of the kind counts as one, another as none
counts_here : (v x : Bool) → x ≡ v → truth (is_same v x) ≡ 1
counts_here true true e = refl
counts_here true false e = cc
counts_here false true e = cc
counts_here false false e = refl

counts_none : (v x : Bool) → x ≡ not v → truth (is_same v x) ≡ 0
counts_none true true e = cc
counts_none true false e = refl
counts_none false true e = refl
counts_none false false e = cc

module _ (b : List Bool) (v : Bool) where
  -- others add nothing
  none_between : (s d : ℕ) → s + d ≤ length b → ((i : ℕ) → s ≤ i → i < s + d → item b i ≡ not v)
      → count_before b v (s + d) ≡ count_before b v s
  none_between s zero h others = let e : s + 0 ≡ s = omega arith in ap (count_before b v) e
  none_between s (suc d) h others =
      let e : s + suc d ≡ s + d + 1 = omega arith in
      omega (
        arith,
        ap (count_before b v) e,
        count_before_more v b (s + d) (omega arith),
        counts_none v (item b (s + d)) (others (s + d) (omega arith) (omega arith)),
        none_between s d (omega arith) (λ i from to. others i from (omega (arith, to))),
      )

  -- the first one has as many of the kind before it as the position from which it is sought
  pub first_counts : (s p : ℕ) → IsFirstFrom b v s p → count_before b v p ≡ count_before b v s
  first_counts s p f =
      let e : s + (p - s) ≡ p = omega (arith, f.from) in
      let none = none_between s (p - s) (omega (arith, f.from, f.inside)) (λ i from to. f.least i from (omega (arith, to, f.from))) in
      omega (arith, none, ap (count_before b v) e)

  pub first_picked : (s p r : ℕ) → IsFirstFrom b v s p → count_before b v s ≡ r → Picks b v r p
  first_picked s p r f is = record { inside = f.inside; item = f.is; before = first_counts s p f ∙ is }

  pub next_counts : (s p : ℕ) → IsFirstFrom b v s p → count_before b v (p + 1) ≡ count_before b v s + 1
  next_counts s p f = omega (arith, count_before_more v b p f.inside, counts_here v (item b p) f.is, first_counts s p f)

  -- where none follows, all are before
  pub none_follows : (s : ℕ) → ((i : ℕ) → s ≤ i → i < length b → item b i ≡ not v) → count_of b v ≡ count_before b v s
  none_follows s others =
      elim (cases_lt (length b) s) [
        | inl past ↦ omega (arith, count_before_past v b s (omega (arith, past)))
        | inr inside ↦
            let e : s + (length b - s) ≡ length b = omega (arith, inside) in
            omega (
              arith,
              none_between s (length b - s) (omega (arith, inside)) (λ i from to. others i from (omega (arith, to, inside))),
              ap (count_before b v) e,
            )
      ]

  -- no more stand before any position than there are
  pub few_before : (s : ℕ) → count_before b v s ≤ count_of b v
  few_before s =
      elim (cases_lt (length b) s) [
        | inl past ↦ omega (arith, count_before_past v b s (omega (arith, past)))
        | inr inside ↦ count_before-le b v s (length b) inside
      ]

-- one more item, of which something holds by its index
pub placed_more : (P : ℕ → ℕ → Type 0) (ys : List ℕ) (n y : ℕ) → ((j : ℕ) → j < n → P j (slice_index ys j)) → n < length ys → P n y
    → (j : ℕ) → j < n + 1 → P j (slice_index (slice_set ys n y) j)
placed_more P ys n y before inside is j l =
    elim (cases_lt j n) [
      | inl less ↦
          let other : j ≢ n = λ e. omega (arith, e, less) in
          subst (P j) (sym (get_or-set_other ys n j y 0 other)) (before j less)
      | inr from ↦
          let e : j ≡ n = omega arith in
          subst (P j) (sym (get_or-set_at ys n j y 0 e inside)) (subst (λ (k : ℕ). P k y) (sym e) is)
    ]
