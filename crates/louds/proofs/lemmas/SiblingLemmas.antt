-- Which child of its parent a node is, by the position of its 1 bit and of the 0 bit before those of its parent; and what
-- it means that a sibling is absent.
use Rattle.std.proofs.Common.{◌≡◌, ℕ, ◌+◌, ◌<◌, ◌≤◌, ◌⊎◌, inl, inr, List, length, Some, sym, ap, ◌∙◌, subst, arith}
use Rattle.std.proofs.lemmas.Option.{same_Some}
use Rattle.bitm_tables.specs.declared.answer.Answer.TheVariants.{Found}
use Rattle.bitm_tables.specs.Tables.{Lists}
use Rattle.louds.proofs.lemmas.TreeLemmas.{one_parent}
use Rattle.louds.specs.Answers.{IsParentOf}
use Rattle.louds.specs.Counted.{degrees_in, IsLouds}
use Rattle.louds.specs.Held.{zero_position, IsOneOf}
use Rattle.louds.specs.Tree.{IsChild}

-- the source's lists are the same when the 0 bit is sought, so what finds their bits still does
pub rank_is : (finds : Lists → Type 0) (n : ℕ) (old new : Lists) → new ≡ old → IsLouds n old → finds old → (v p i start : ℕ) → 0 < v
    → IsOneOf (degrees_in n old) v p → IsParentOf (degrees_in n old) v (Found i)
    → (IsLouds n new → finds new → Some start ≡ Some (zero_position (degrees_in n new) i))
    → (k : ℕ) × IsChild (degrees_in n old) i k v × (p ≡ start + 1 + k)
rank_is finds n old new same h f v p i start some one parent zero =
    let d = degrees_in n old in
    let o = one.1 some in
    let own = one_parent d i o.0 parent.1.0 o.1 v parent.1.1 o.3 in
    let at : start ≡ zero_position d i =
    same_Some _ _ (zero (subst (IsLouds n) (sym same) h) (subst finds (sym same) f)) ∙ ap (λ lists. zero_position (degrees_in n lists) i) same in (
      o.1,
      subst (λ (j : ℕ). IsChild d j o.1 v) (sym own.0) o.3,
      o.4 ∙ ap (λ j. zero_position d j + 1 + o.1) (sym own.0) ∙ ap (λ s. s + 1 + o.1) (sym at),
    )

-- what is absent of a node that there is, is so since the second fact holds
pub absent_inside : (P : List ℕ → Type 0) (d e : List ℕ) → d ≡ e → (v : ℕ) → v < length e → (length d ≤ v) ⊎ P d → P e
absent_inside P d e same v inside (inl outside) = absurd (omega (arith, inside, outside, ap length same))
absent_inside P d e same v inside (inr holds) = subst P same holds
