-- Where there are no more bits of a kind, and that the bit which a rank selects is the nearest of its kind.
use Rattle.std.proofs.Common.{◌≡◌, ℕ, ◌+◌, ◌-◌, ◌<◌, ◌≤◌, Bool, true, false, not, List, length, min, refl, subst, sym, arith}
use Rattle.bit_lists.proofs.lemmas.CountLemmas.{count_before-le, ones_before-add-zeros_before}
use Rattle.bit_lists.proofs.lemmas.PickLemmas.{rank_below, Picks-rank, IsFirstFrom-Picks, IsLastTo-Picks, none_to}
use Rattle.bit_lists.specs.Bits.{item}
use Rattle.bit_lists.specs.Count.{count_before, count_of, Picks}
use Rattle.bitm_select.specs.Answers.{IsSelected}
use Rattle.bitm_tables.specs.declared.answer.Answer.{Answer}
use Rattle.bitm_tables.specs.declared.answer.Answer.TheVariants.{Found, Absent, Wrong}
use Rattle.tables_view.specs.Nearest.{IsNext, IsOnlyBefore, IsOnlyFrom, IsPrevious}

-- a bit that is not v
not_v : (v x : Bool) → ¬ (x ≡ v) → x ≡ not v
not_v true true is_not = absurd (is_not refl)
not_v true false is_not = refl
not_v false true is_not = refl
not_v false false is_not = absurd (is_not refl)

-- where no more bits v are than stand before a position there are none from it on
pub none_after : (b : List Bool) (v : Bool) (s p : ℕ) → count_of b v ≤ count_before b v s → s ≤ p → p < length b → item b p ≡ not v
none_after b v s p none from inside =
    not_v v (item b p)
    (λ is. absurd (omega (arith, none, count_before-le b v s p from, rank_below b v _ p (Picks-rank b v p inside is))))

few : (b : List Bool) (v : Bool) (i : ℕ) → i ≤ length b → count_before b v i ≤ i
few b true i l = omega (arith, ones_before-add-zeros_before b i l)
few b false i l = omega (arith, ones_before-add-zeros_before b i l)

-- the position with the rank of another one is the first from that on
pub next_of : (b : List Bool) (v : Bool) (from r : ℕ) (selected answer : Answer ℕ) → r ≡ count_before b v from
    → IsSelected b v r selected → IsOnlyFrom from selected answer → IsNext b v from answer
next_of b v from r (Found p) answer e picked only =
    let first = IsFirstFrom-Picks b v from p (subst (λ (n : ℕ). Picks b v n p) e picked) in
    subst (IsNext b v from) (sym (only.0 first.from)) first
next_of b v from r Absent answer e none only =
    subst (IsNext b v from) (sym only) (λ p after inside. none_after b v from p (omega (arith, none, e)) after inside)
next_of b v from r Wrong answer e wrong only = absurd wrong

module _ (b : List Bool) (v : Bool) (from end : ℕ) (ends : end ≡ min (from + 1) (length b)) where
  -- none stand before the end
  pub previous_none : 0 ≡ count_before b v end → IsPrevious b v from Absent
  previous_none none = λ p to inside.
      none_to b v p p inside
      (omega (arith, none, count_before-le b v (p + 1) end (omega (arith, to, inside, ends))))
      (omega arith)

  -- the position with one rank less than the end is the last before the end
  pub previous_of : (r : ℕ) (selected answer : Answer ℕ) → r + 1 ≡ count_before b v end
      → IsSelected b v r selected → IsOnlyBefore end selected answer → IsPrevious b v from answer
  previous_of r (Found p) answer e picked only =
      let some = few b v end (omega (arith, ends)) in
      let last =
      IsLastTo-Picks b v (min from (length b - 1)) r p (omega (arith, some, e, ends))
      (subst (λ (n : ℕ). count_before b v n ≡ r + 1) (omega (arith, some, e, ends)) (sym e))
      picked in
      let early : p < end = omega (arith, last.to, ends, picked.inside) in
      subst (IsPrevious b v from) (sym (only.0 early)) last
  previous_of r Absent answer e none only =
      absurd (omega (arith, none, e, count_before-le b v end (length b) (omega (arith, ends))))
  previous_of r Wrong answer e wrong only = absurd wrong
