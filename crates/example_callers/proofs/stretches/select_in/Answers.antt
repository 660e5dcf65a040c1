-- The rank in the vector and the ones before it, which are m, pick a position between its ends.
use Rattle.std.proofs.Common.{◌≡◌, ℕ, ◌+◌, ◌-◌, ◌<◌, ◌≤◌, true, List, Bool, length, subst, arith}
use Rattle.bitm.proofs.BitLaws.{count_in_stretch, counts_grow, ones_and_zeros, picked_between, picked_in_stretch}
use Rattle.bitm.specs.Count.{ones_before, ones_of, Picks}
use Rattle.bitm.specs.StretchLaws.{stretch}
use Rattle.example_callers.proofs.stretches.select_in.Goals as goal

module _ (b : List Bool) (k n r m : ℕ) (inside : k + n ≤ length b) (some : r < ones_before (stretch b k n) n) (is : m ≡ ones_before b k) where
  ends : ones_before b k + ones_before (stretch b k n) n ≡ ones_before b (k + n)
  ends = count_in_stretch b true k n n inside (omega arith)

  room : m + r < ones_of b
  room = omega (arith, ends, counts_grow b true (k + n) (length b) inside)

  fits : m + r < length b
  fits = omega (arith, room, ones_and_zeros b (length b) (omega arith))

  module _ (p : ℕ) (here : Picks b true (m + r) p) where
    within : (k ≤ p) × (p < k + n)
    within = picked_between b true k (k + n) (m + r) p (omega arith) (omega (arith, ends)) here

    there : Picks (stretch b k n) true r (p - k)
    there =
        let at : p ≡ k + (p - k) = omega (arith, within) in
        let P : ℕ → Type 0 = λ q. Picks b true (ones_before b k + r) q in
        let Q : ℕ → Type 0 = λ c. Picks b true (c + r) p in
        (picked_in_stretch b true k n r (p - k) inside (omega (arith, within))).1 (subst P at (subst Q is here))

pub overflow_add-rank : goal.overflow_add-rank
overflow_add-rank g c =
    omega (arith, fits _ _ _ _ _ c.requires.inside c.requires.some c.rank.ensures, c.len-len.ensures, c.len-len.type_inv)

pub select-requires : goal.select-requires
select-requires g c = room _ _ _ _ _ c.requires.inside c.requires.some c.rank.ensures

pub overflow_sub-result : goal.overflow_sub-result
overflow_sub-result g c = (within _ _ _ _ _ c.requires.inside c.requires.some c.rank.ensures _ c.select.ensures).0

pub returns : goal.returns
returns g c = there _ _ _ _ _ c.requires.inside c.requires.some c.rank.ensures _ c.select.ensures
