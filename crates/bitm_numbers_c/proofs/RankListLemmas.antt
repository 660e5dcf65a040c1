-- Answers of a group that is written at once, after those that stand.
use Rattle.std.proofs.Common.{◌≡◌, ℕ, ◌+◌, ◌-◌, ◌<◌, ◌≤◌, List, length, take, drop, slice_index, inl, inr, sym, ap, ◌∙◌, subst, arith}
use Rattle.std.proofs.lemmas.Bool.{cases_lt}
use Rattle.bitm_select.proofs.lemmas.ManyLemmas.{part_item, put_below, put_inside}
use borrow.Rule.Slice.PartMut.{put_mid}

-- the same of two lists that are asked side by side
pub both_follow : (P : ℕ → ℕ → ℕ → Type 0) (from n : ℕ) (us vs outs new : List ℕ) → from + n ≤ length outs → length new ≡ n
    → ((j : ℕ) → j < from → P (slice_index us j) (slice_index vs j) (slice_index outs j))
    → ((j : ℕ) → j < n → P (slice_index (take (from + n - from) (drop from us)) j) (slice_index (take (from + n - from) (drop from vs)) j) (slice_index new j))
    → (j : ℕ) → j < from + n → P (slice_index us j) (slice_index vs j) (slice_index (put_mid from (from + n - from) outs new) j)
both_follow P from n us vs outs new inside long old added j h =
    let after = put_mid from (from + n - from) outs new in
    elim (cases_lt j from) [
      | inl below ↦
          subst (P (slice_index us j) (slice_index vs j)) (sym (put_below from (from + n - from) outs new j below (omega (arith, inside)))) (old j below)
      | inr over ↦
          let at : from + (j - from) ≡ j = omega (arith, over) in
          let k : j - from < n = omega (arith, over, h) in
          let there : slice_index after j ≡ slice_index new (j - from) =
          ap (slice_index after) (sym at) ∙ put_inside from (from + n - from) outs new (j - from) (omega (arith, k, long)) (omega (arith, inside)) in
          let one = part_item us from n (j - from) k ∙ ap (slice_index us) at in
          let two = part_item vs from n (j - from) k ∙ ap (slice_index vs) at in
          subst (P (slice_index us j) (slice_index vs j)) (sym there)
          (subst (λ (v : ℕ). P (slice_index us j) v (slice_index new (j - from))) two
          (subst (λ (u : ℕ). P u (slice_index (take (from + n - from) (drop from vs)) (j - from)) (slice_index new (j - from))) one (added (j - from) k)))
    ]
