-- A number below the codes stands for itself.
use Rattle.std.proofs.Common.{◌≡◌, ℕ, ◌-◌, ◌^◌, sym, subst}
use Rattle.bitm_tables.specs.declared.answer.Answer.{Answer}
use Rattle.bitm_view.proofs.CodeLemmas.{selected_position}
use Rattle.bitm_view.specs.Queries.{selected_by}
use Rattle.bitm_abi.specs.Status.{IsFoundBelow}
use Rattle.bitm_abi.proofs.counts.code_of.Goals as goal

pub returns-in-Found : goal.returns-in-Found
returns-in-Found c =
    subst (λ (answer : Answer ℕ). IsFoundBelow (2 ^ 64 - 2) answer → selected_by c.in-Found.number ≡ answer) (sym c.in-Found.is)
    (selected_position c.in-Found.number)
