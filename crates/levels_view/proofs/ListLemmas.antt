-- A part of a list that is written at once, of which the first items are answers.
use Rattle.std.proofs.Common.{rules, ◌≡◌, ℕ, ◌+◌, ◌-◌, ◌<◌, ◌≤◌, List, length, take, drop, slice_index, inl, inr, sym, ap, ◌∙◌, subst, arith}
use Rattle.std.proofs.lemmas.Bool.{cases_lt}
use Rattle.std.proofs.lemmas.List.{places}
use Rattle.bitm_select.proofs.lemmas.ManyLemmas.{part_item, put_below, put_inside}
use borrow.Rule.Slice.PartMut.{put_mid}

-- behind the part all is as it was
put_past : (a k : ℕ) (xs ys : List ℕ) (j : ℕ) → k ≡ length ys → a + k ≤ j → a + k ≤ length xs → slice_index (put_mid a k xs ys) j ≡ slice_index xs j
put_past a k xs ys j long past inside = search (rules, places)

module _ (from n m : ℕ) (few : m ≤ n) (outs new : List ℕ) (inside : from + n ≤ length outs) (long : length new ≡ n) where
  -- an item that was written
  written : (j : ℕ) → from ≤ j → j < from + n → slice_index (put_mid from (from + n - from) outs new) j ≡ slice_index new (j - from)
  written j over less =
      let at : from + (j - from) ≡ j = omega (arith, over) in
      ap (slice_index (put_mid from (from + n - from) outs new)) (sym at)
      ∙ put_inside from (from + n - from) outs new (j - from) (omega (arith, over, less, long)) (omega (arith, inside))

  -- the first m of them are answers, after those that stand
  pub answers_follow : (P : ℕ → ℕ → Type 0) → ((j : ℕ) → j < from → P j (slice_index outs j)) → ((j : ℕ) → j < m → P (from + j) (slice_index new j))
      → (j : ℕ) → j < from + m → P j (slice_index (put_mid from (from + n - from) outs new) j)
  answers_follow P old added j h =
      elim (cases_lt j from) [
        | inl below ↦ subst (P j) (sym (put_below from (from + n - from) outs new j below (omega (arith, inside)))) (old j below)
        | inr over ↦
            let at : from + (j - from) ≡ j = omega (arith, over) in
            let there = written j (omega (arith, over)) (omega (arith, h, few)) in
            subst (P j) (sym there)
            (subst (λ (r : ℕ). P r (slice_index new (j - from))) at (added (j - from) (omega (arith, over, h))))
      ]

  -- and the others as they were
  pub kept_from : (olds : List ℕ) → ((j : ℕ) → from ≤ j → slice_index outs j ≡ slice_index olds j)
      → ((j : ℕ) → m ≤ j → slice_index new j ≡ slice_index (take (from + n - from) (drop from outs)) j)
      → (j : ℕ) → from + m ≤ j → slice_index (put_mid from (from + n - from) outs new) j ≡ slice_index olds j
  kept_from olds before kept j h =
      elim (cases_lt j (from + n)) [
        | inl less ↦
            let at : from + (j - from) ≡ j = omega (arith, h) in
            written j (omega (arith, h)) less
            ∙ kept (j - from) (omega (arith, h))
            ∙ part_item outs from n (j - from) (omega (arith, h, less))
            ∙ ap (slice_index outs) at
            ∙ before j (omega (arith, h))
        | inr past ↦ put_past from (from + n - from) outs new j (omega (arith, long)) (omega (arith, past)) (omega (arith, inside)) ∙ before j (omega (arith, h))
      ]
