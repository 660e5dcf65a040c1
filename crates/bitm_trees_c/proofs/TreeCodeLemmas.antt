-- A node that is found and a degree is no code.
use Rattle.std.proofs.Common.{◌≡◌, ℕ, ◌-◌, ◌^◌, ◌<◌, refl, sym, ap, ◌∙◌, subst, arith}
use Rattle.bitm_select.specs.Answers.{list_code}
use Rattle.bitm_tables.specs.declared.answer.Answer.{Answer}
use Rattle.bitm_tables.specs.declared.answer.Answer.TheVariants.{Found, Absent, Wrong}
use Rattle.bitm_view.proofs.CodeLemmas.{selected_position}
use Rattle.bitm_view.specs.Queries.{selected_by}
use Rattle.louds.specs.Answers.{IsChildWithin, IsDegreeWithin, IsParentWithin}
use Rattle.tree_block.specs.Codes.{IsCodeOf}
use Rattle.bitm_abi.specs.Status.{IsFoundBelow}

-- the code of an answer stands for it
claimed_back : (answer : Answer ℕ) → IsFoundBelow (2 ^ 64 - 2) answer → selected_by (list_code answer) ≡ answer
claimed_back (Found n) below = selected_position n below
claimed_back Absent below = refl
claimed_back Wrong below = refl

pub coded : (P : Answer ℕ → Type 0) (n : ℕ) → ((answer : Answer ℕ) → P answer → IsFoundBelow (2 ^ 64 - 2) answer) → IsCodeOf P n
    → P (selected_by n)
coded P n below c = subst P (sym (ap selected_by c.code ∙ claimed_back c.answer (below c.answer c.holds))) c.holds

module _ (n : ℕ) (short : n < 2 ^ 60) (i : ℕ) where
  pub parent_code : (answer : Answer ℕ) → IsParentWithin n i answer → IsFoundBelow (2 ^ 64 - 2) answer
  parent_code (Found p) h = omega (arith, h.0, h.1, short)
  parent_code Absent h = tt
  parent_code Wrong h = tt

  pub child_code : (answer : Answer ℕ) → IsChildWithin n i answer → IsFoundBelow (2 ^ 64 - 2) answer
  child_code (Found c) h = omega (arith, h.1, short)
  child_code Absent h = tt
  child_code Wrong h = tt

  pub degree_code : (answer : Answer ℕ) → IsDegreeWithin n i answer → IsFoundBelow (2 ^ 64 - 2) answer
  degree_code (Found k) h = omega (arith, h.1, short)
  degree_code Absent h = tt
  degree_code Wrong h = tt
