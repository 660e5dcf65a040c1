-- What the library answers is what the status and the number say.
use Rattle.std.proofs.Common.{◌≡◌, ℕ, sym, subst}
use Rattle.bitm_abi.specs.Status.{answer_of, Exported, IsReported}
use Rattle.bitm_tables.specs.declared.answer.Answer.{Answer}

-- P is what the library says of an answer over what is borrowed, which is what the view has
pub claimed : {T L : Type 0} (P : L → Answer T → Type 0) (borrowed view : L) → borrowed ≡ view → (sized : Type 0) → sized
    → (status : ℕ) (old new : T) (answer : Answer T) → IsReported answer status old new → P borrowed answer
    → Exported sized (P view) status old new
claimed P borrowed view same sized fits status old new answer is holds = record {
  bad = λ no. absurd (no fits);
  fits = λ _. fits;
  good = λ _. is.good;
  kept = is.kept;
  answer = λ _. subst (λ l. P l (answer_of status new)) same (subst (P borrowed) (sym is.is) holds);
}
