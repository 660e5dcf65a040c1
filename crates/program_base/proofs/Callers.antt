-- What the status of an ended run says of the command.
use Rattle.std.proofs.Common.{◌≡◌, ℕ, ◌≤◌, ◌==◌, Bool, true, false, Result, Ok, IfOk, sym, subst, arith, ⊎_elim, eq-eqb}
use Rattle.std.proofs.lemmas.Bool.{cases_eq, ne_eqb}

-- what is known of a command that was done is known where the status is 0 or 1
pub ended : {E : Type 0} (r : Result Bool E) (status : ℕ) (D : Bool → Type 0) → IfOk r D → (status ≡ 0 → r ≡ Ok true)
    → (status ≡ 1 → r ≡ Ok false) → status ≤ 1 → D (status == 0)
ended r status D done good bad small =
    ⊎_elim
    (λ zero. subst D (sym (eq-eqb status 0 zero)) (subst (λ s. IfOk s D) (good zero) done))
    (λ other. subst D (sym (ne_eqb status 0 other)) (subst (λ s. IfOk s D) (bad (omega (arith, small, other))) done))
    (cases_eq status 0)
