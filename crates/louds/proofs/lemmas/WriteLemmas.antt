-- How the bits of a tree are written, one by one, node by node.
use Rattle.std.proofs.Common.{◌≡◌, ℕ, ◌+◌, ◌<◌, ◌≤◌, ◌⊎◌, Bool, true, false, List, length, get_or, ap, ◌∙◌, ⊎_elim, arith, inl, inr}
use Rattle.std.proofs.lemmas.Bool.{cases_lt}
use Rattle.bit_lists.specs.Bits.{item}
use Rattle.louds.proofs.lemmas.TreeLemmas.{zero_position_more}
use Rattle.louds.proofs.lemmas.HeldLemmas.{zero_position_order}
use Rattle.louds.specs.Held.{zero_position, IsWritten}

-- the bits from start on are ones, so many, and the others are as they were
pub record IsRun (start count : ℕ) (old new : List Bool) : Type 0 where
  pub ones : (p : ℕ) → start ≤ p → p < start + count → item new p ≡ true
  pub before : (p : ℕ) → p < start → item new p ≡ item old p
  pub after : (p : ℕ) → start + count ≤ p → item new p ≡ item old p

-- a range that was filled
pub fill_run : (start end count : ℕ) (old new : List Bool) → end ≡ start + count
    → ((i : ℕ) → start ≤ i → i < end → item new i ≡ true) → ((i : ℕ) → (i < start) ⊎ (end ≤ i) → item new i ≡ item old i)
    → IsRun start count old new
fill_run start end count old new is inside beside = record {
  ones = λ p from to. inside p from (omega (arith, is));
  before = λ p less. beside p (inl less);
  after = λ p from. beside p (inr (omega (arith, is)));
}

-- the first n nodes are written, and nothing after them
pub record IsBegun (d : List ℕ) (n : ℕ) (b : List Bool) : Type 0 where
  pub written : IsWritten d n b
  pub clear : (p : ℕ) → zero_position d n < p → item b p ≡ false

pub begun_more : (d : List ℕ) (i start : ℕ) (b new : List Bool) → IsBegun d i b → i < length d → start ≡ zero_position d i + 1
    → IsRun start (get_or d i 0) b new → IsBegun d (i + 1) new
begun_more d i start b new h inside at run = record {
  written = record {
    root = run.before 0 (omega arith) ∙ h.written.root;
    zeros = λ j less.
        ⊎_elim
        (λ old.
        let order = zero_position_order d j i (omega arith) (omega arith) in
        run.before (zero_position d j) (omega (arith, order, at)) ∙ h.written.zeros j (omega arith))
        (λ last.
        let here : j ≡ i + 1 = omega arith in
        let there : zero_position d j ≡ start + get_or d i 0 = omega (arith, ap (zero_position d) here, more, at) in
        run.after (zero_position d j) (omega (arith, there)) ∙ h.clear (zero_position d j) (omega (arith, there, at)))
        (cases_lt j (i + 1));
    ones = λ j p less from to.
        ⊎_elim
        (λ old.
        let order = zero_position_order d (j + 1) i (omega arith) (omega arith) in
        run.before p (omega (arith, order, at)) ∙ h.written.ones j p old from to)
        (λ last.
        let here : j ≡ i = omega arith in
        run.ones p (omega (arith, ap (zero_position d) here, at)) (omega (arith, ap (λ k. zero_position d (k + 1)) here, more, at)))
        (cases_lt j i);
  };
  clear = λ p after. run.after p (omega (arith, more, at)) ∙ h.clear p (omega (arith, more));
}
  where
    more : zero_position d (i + 1) ≡ zero_position d i + 1 + get_or d i 0
    more = zero_position_more d i inside
