-- Free slots stand for the used ones from n on.
use Rattle.std.proofs.Common.{◌≡◌, ℕ, ◌+◌, ◌-◌, ◌<◌, ◌≤◌, Bool, true, false, List, length, slice_index, slice_set, sym, ap, ◌∙◌, ⊎_elim, arith}
use Rattle.std.proofs.lemmas.Bool.{cases_eq}
use Rattle.std.proofs.lemmas.Grind.{get_or-set_at}
use Rattle.std.proofs.lemmas.List.{get_or-set_other}
use Rattle.std.proofs.lemmas.List.Elements.{All-from_get_or}
use Rattle.bit_lists.specs.Bits.{item}
use Rattle.bit_lists.specs.Count.{ones_before, ones_of, IsFirstFrom}
use Rattle.bit_lists.proofs.lemmas.CountLemmas.{ones_before_more, ones_before-at_most_all}
use Rattle.bit_lists.proofs.lemmas.CutLemmas.{run_count}
use Rattle.bit_lists.proofs.lemmas.WordLemmas.{truth}
use Rattle.hash_buckets.specs.Free.{AreTaken, StandForUsed, StandsNext}

-- a run of 1 bits
run : (b : List Bool) (at n : ℕ) → at ≤ n → n ≤ length b → ((i : ℕ) → at ≤ i → i < n → item b i ≡ true) → ones_before b n ≡ ones_before b at + (n - at)
run b at n order inside all =
    let e : at + (n - at) ≡ n = omega arith in
    ap (ones_before b) (sym e) ∙ run_count b true at (n - at) (omega arith) (λ i from to. all i from (omega (arith, to)))

-- one more bit that is 1, or 0
one-more : (b : List Bool) (n i : ℕ) → n + i < length b → item b (n + i) ≡ true → ones_before b (n + (i + 1)) ≡ ones_before b (n + i) + 1
one-more b n i inside is =
    let e : n + (i + 1) ≡ n + i + 1 = omega arith in
    omega (arith, ap (ones_before b) e, ones_before_more b (n + i) inside, ap truth is)

none-more : (b : List Bool) (n i : ℕ) → n + i < length b → item b (n + i) ≡ false → ones_before b (n + (i + 1)) ≡ ones_before b (n + i)
none-more b n i inside is =
    let e : n + (i + 1) ≡ n + i + 1 = omega arith in
    omega (arith, ap (ones_before b) e, ones_before_more b (n + i) inside, ap truth is)

differ : (x : Bool) → x ≡ false → x ≡ true → ⊥
differ x is_no is_yes = false_true (sym is_no ∙ is_yes)
  where
    false_true : false ≡ true → ⊥
    false_true h = cc

-- a slot that is used
pub next-used : (b : List Bool) (n i last at slot : ℕ) → n + i < length b → item b (n + i) ≡ true → last ≤ at → slot < n
    → IsFirstFrom b false at slot → AreTaken b n i at → StandsNext b n i last at slot (slot + 1)
next-used b n i last at slot inside used order below first taken =
    let full = run b at slot first.from (omega (arith, first.inside)) first.least in
    let here : ones_before b (slot + 1) ≡ ones_before b slot = omega (arith, ones_before_more b slot first.inside, ap truth first.is) in
    record {
      rises = omega (arith, order, first.from);
      below = below;
      later = omega (arith, first.from);
      reached = omega arith;
      within = omega (arith, below);
      taken = omega (arith, taken, one-more b n i inside used, full, here, first.from);
      clear = λ _. first.is;
      from = λ _. first.from;
      past = λ _. omega arith;
    }

-- a slot that is not
pub next-same : (b : List Bool) (n i last at : ℕ) → n + i < length b → item b (n + i) ≡ false → last ≤ at → last < n → at ≤ n
    → AreTaken b n i at → StandsNext b n i last at last at
next-same b n i last at inside free order below within taken = record {
  rises = omega arith;
  below = below;
  later = omega arith;
  reached = order;
  within = within;
  taken = omega (arith, taken, none-more b n i inside free);
  clear = λ used. absurd (differ (item b (n + i)) free used);
  from = λ used. absurd (differ (item b (n + i)) free used);
  past = λ used. absurd (differ (item b (n + i)) free used);
}

-- there is a free slot for each that is used
pub never-full : (b : List Bool) (n i at : ℕ) → n + i < length b → item b (n + i) ≡ true → at ≤ n → ones_of b ≤ n → AreTaken b n i at
    → ((p : ℕ) → at ≤ p → p < n → item b p ≡ true) → ⊥
never-full b n i at inside used within few taken full =
    omega (arith, taken, one-more b n i inside used, run b at n within (omega (arith, inside)) full, ones_before-at_most_all b (n + (i + 1)), few, within)

-- the first i items of the list stand for the slots from n on, the last of them is `last`, and the free slots before
-- `at` are taken
pub record IsFilled (b : List Bool) (n : ℕ) (free : List ℕ) (i last at : ℕ) : Type 0 where
  pub order : last ≤ at
  pub below_last : last < n
  pub within : at ≤ n
  pub taken : AreTaken b n i at
  pub below : (k : ℕ) → k < i → slice_index free k < n
  pub least : (k : ℕ) → k < i → slice_index free k ≤ last
  pub rise : (j k : ℕ) → j ≤ k → k < i → slice_index free j ≤ slice_index free k
  pub clear : (k : ℕ) → k < i → item b (n + k) ≡ true → item b (slice_index free k) ≡ false
  pub reached : (k : ℕ) → k < i → item b (n + k) ≡ true → slice_index free k < at
  pub apart : (j k : ℕ) → j < k → k < i → item b (n + j) ≡ true → item b (n + k) ≡ true → slice_index free j < slice_index free k

pub filled-none : (b : List Bool) (n : ℕ) (free : List ℕ) → 0 < n → AreTaken b n 0 0 → IsFilled b n free 0 0 0
filled-none b n free some taken = record {
  order = omega arith;
  below_last = some;
  within = omega arith;
  taken = taken;
  below = λ k less. absurd (omega arith);
  least = λ k less. absurd (omega arith);
  rise = λ j k le less. absurd (omega arith);
  clear = λ k less. absurd (omega arith);
  reached = λ k less. absurd (omega arith);
  apart = λ j k le less. absurd (omega arith);
}

pub filled-more : (b : List Bool) (n : ℕ) (free : List ℕ) (i last at slot next : ℕ) → i < length free → IsFilled b n free i last at
    → StandsNext b n i last at slot next → IsFilled b n (slice_set free i slot) (i + 1) slot next
filled-more b n free i last at slot next inside filled s =
    let new = slice_set free i slot in
    let here : (k : ℕ) → k ≡ i → slice_index new k ≡ slot = λ k is. get_or-set_at free i k slot 0 is inside in
    let there : (k : ℕ) → k < i → slice_index new k ≡ slice_index free k = λ k less. get_or-set_other free i k slot 0 (λ e. omega arith) in
    record {
      order = s.reached;
      below_last = s.below;
      within = s.within;
      taken = s.taken;
      below = λ k less. ⊎_elim
          (λ is. omega (arith, here k is, s.below))
          (λ other. omega (arith, there k (omega arith), filled.below k (omega arith)))
          (cases_eq k i);
      least = λ k less. ⊎_elim
          (λ is. omega (arith, here k is))
          (λ other. omega (arith, there k (omega arith), filled.least k (omega arith), s.rises))
          (cases_eq k i);
      rise = λ j k le less. ⊎_elim
          (λ is. ⊎_elim
          (λ same. omega (arith, here k is, here j same))
          (λ before. omega (arith, here k is, there j (omega arith), filled.least j (omega arith), s.rises))
          (cases_eq j i))
          (λ other. omega (arith, there k (omega arith), there j (omega arith), filled.rise j k le (omega arith)))
          (cases_eq k i);
      clear = λ k less used. ⊎_elim
          (λ is. ap (item b) (here k is) ∙ s.clear (ap (λ p. item b (n + p)) (sym is) ∙ used))
          (λ other. ap (item b) (there k (omega arith)) ∙ filled.clear k (omega arith) used)
          (cases_eq k i);
      reached = λ k less used. ⊎_elim
          (λ is. omega (arith, here k is, s.past (ap (λ p. item b (n + p)) (sym is) ∙ used)))
          (λ other. omega (arith, there k (omega arith), filled.reached k (omega arith) used, s.later))
          (cases_eq k i);
      apart = λ j k le less first second. ⊎_elim
          (λ is. omega (arith, here k is, there j (omega arith), filled.reached j (omega arith) first, s.from (ap (λ p. item b (n + p)) (sym is) ∙ second)))
          (λ other. omega (arith, there k (omega arith), there j (omega arith), filled.apart j k le (omega arith) first second))
          (cases_eq k i);
    }

pub filled-all : (b : List Bool) (n : ℕ) (free : List ℕ) (i last at : ℕ) → length free ≤ i → IsFilled b n free i last at → StandForUsed b n free
filled-all b n free i last at all filled = record {
  below = All-from_get_or (λ slot. slot < n) free 0 (λ k less. filled.below k (omega arith));
  rise = λ j k le less. filled.rise j k le (omega arith);
  clear = λ k less. filled.clear k (omega arith);
  apart = λ j k le less. filled.apart j k le (omega arith);
}
