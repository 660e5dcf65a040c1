-- The last zero up to where child k of a node would have its one shows whether the node has this child.
use Rattle.std.proofs.Common.{◌≡◌, ℕ, ◌+◌, ◌<◌, ◌≤◌, true, false, Bool, List, length, slice_index, refl, sym, ◌∙◌, ⊎_elim, arith}
use Rattle.std.proofs.lemmas.Bool.{cases_lt}
use Rattle.bit_lists.specs.Count.{IsLastTo}
use Rattle.louds.proofs.lemmas.HeldLemmas.{run_start}
use Rattle.louds.proofs.lemmas.TreeLemmas.{zero_position_more}
use Rattle.louds.specs.Held.{zero_position, IsHeld}

module _ (d : List ℕ) (n : ℕ) (b : List Bool) (h : IsHeld d n b) (i k : ℕ) (less : i < n) where
  inside : i < length d
  inside = omega (arith, less, h.count)

  -- a later zero is the one after the ones of the node, or one behind it
  pub no_child : (p : ℕ) → IsLastTo b false (zero_position d i + 1 + k) p → zero_position d i < p → slice_index d i ≤ k
  no_child p last more =
      ⊎_elim
      (λ some. absurd (omega (arith, more, run_start d n b i k _ p h (record { node = inside; some = some; number = refl }) last)))
      (λ few. few)
      (cases_lt k (slice_index d i))

  -- the zero before the ones of the node is the last one only where these are more than k
  pub has_child : IsLastTo b false (zero_position d i + 1 + k) (zero_position d i) → k < slice_index d i
  has_child last =
      ⊎_elim
      (λ some. some)
      (λ few.
      let more = zero_position_more d i inside in
      let one = last.greatest (zero_position d (i + 1)) (omega (arith, more)) (omega (arith, more, few)) in
      let zero = (h.zeros (i + 1) (omega (arith, less))).item in
      let both : true ≡ false = sym one ∙ zero in
      cc)
      (cases_lt k (slice_index d i))

  -- where the position of the one is behind all bits, so is that of the zero
  pub no_room : length b ≤ zero_position d i + 1 + k → slice_index d i ≤ k
  no_room end = omega (arith, end, zero_position_more d i inside, (h.zeros (i + 1) (omega (arith, less))).inside)
