-- Where all letters are written that there is room for, the status alone shows how many; and where bytes are answered, a
-- letter is one.
use Rattle.std.proofs.Common.{◌≡◌, ℕ, ◌⊎◌, ◌<◌, ◌≤◌, List, length, inl, inr, refl, sym, subst, arith}
use Rattle.std.specs.Prelude.{⊤, Option, Some, None}
use Rattle.bitm_tables.specs.declared.answer.Answer.{Answer}
use Rattle.bitm_tables.specs.declared.answer.Answer.TheVariants.{Found}
use Rattle.bitm_abi.specs.Status.{answer_of, Exported, IsReported}
use Rattle.text_block.specs.Block.{TextParts}
use Rattle.bitm_trees_c.specs.Text.{IsPartIn}

module _ (text_of : TextParts → List ℕ) (width_of : TextParts → ℕ) (from : ℕ) (out : List ℕ) (parts : TextParts) where
  abbrev OfStatus : ℕ → ℕ → Type 0
  OfStatus n status = IsPartIn text_of width_of from out parts (answer_of status n)

  of_all : (n : ℕ) → IsPartIn text_of width_of from out parts (Found n) → IsPartIn text_of width_of from out parts (Found (length out))
  of_all n h = subst (λ k. IsPartIn text_of width_of from out parts (Found k)) h.inside.1 h

  by_status : (status n : ℕ) → (status ≡ 0) ⊎ (status ≡ 1) ⊎ (status ≡ 3) → OfStatus n status → OfStatus (length out) status
  by_status status n (inl zero) h = subst (OfStatus (length out)) (sym zero) (of_all n (subst (OfStatus n) zero h))
  by_status status n (inr (inl one)) h = subst (OfStatus (length out)) (sym one) (subst (OfStatus n) one h)
  by_status status n (inr (inr three)) h = subst (OfStatus (length out)) (sym three) (subst (OfStatus n) three h)

-- what the library says of the letters over what is borrowed, which is what the view has
pub part_claimed : (text_of : TextParts → List ℕ) (width_of : TextParts → ℕ) (from : ℕ) (out : List ℕ) (borrowed view : TextParts) → borrowed ≡ view → (sized : Type 0) → sized → (status old new : ℕ) (answer : Answer ℕ)
    → IsReported answer status old new → IsPartIn text_of width_of from out borrowed answer
    → Exported sized (IsPartIn text_of width_of from out view) status (length out) (length out)
part_claimed text_of width_of from out borrowed view same sized fits status old new answer is holds =
    let claimed = by_status text_of width_of from out borrowed status new is.good (subst (IsPartIn text_of width_of from out borrowed) (sym is.is) holds) in
    record {
      bad = λ no. absurd (no fits);
      fits = λ _. fits;
      good = λ _. is.good;
      kept = λ _. refl;
      answer = λ _. subst (λ l. IsPartIn text_of width_of from out l (answer_of status (length out))) same claimed;
    }

abbrev IsGiven : {T : Type 0} → Option T → Type 0
IsGiven (Some x) = ⊤
IsGiven None = ⊥

-- bytes were answered, and they are not where a letter has more bits
pub narrow : (width : ℕ) (answer : Answer ℕ) (P : Type 0) → (8 < width → (◌≡◌ {A = Option (Answer ℕ)} (Some answer) None) × P) → width ≤ 8
narrow width answer P wide =
    let not_wide : ¬ (8 < width) = λ h. subst IsGiven (wide h).0 tt in
    omega (arith, not_wide)
