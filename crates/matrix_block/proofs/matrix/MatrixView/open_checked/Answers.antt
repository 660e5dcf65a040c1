-- What was opened, verified and checked is sound, and nothing else is.
use Rattle.std.proofs.Common.{List, ℕ, refl, sym, subst, ◌∙◌}
use Rattle.std.proofs.lemmas.Bool.{true≢false}
use Rattle.bitm_block.specs.Header.{IsVerified}
use Rattle.matrix_block.specs.Block.{HasHints, HoldsMatrix, MatrixParts}
use Rattle.matrix_block.proofs.matrix.MatrixView.open_checked.Goals as goal
use Rattle.matrix_block.proofs.matrix.MatrixView.open_checked.Goals.{else-verify-via-then-verify+else-check, else-verify-via-else-verify}

-- a matrix with the hints of its words
abbrev IsRight : MatrixParts → Type 0
IsRight p = HoldsMatrix p × HasHints p

pub returns-then-check : goal.returns-then-check
returns-then-check c =
    let seen = c.in_ok-view.ensures in
    let right = subst IsRight seen.1 (c.if-check.ensures.0 refl) in (
      record {
        matrix_block = seen.0;
        verified = subst (λ (b : List ℕ). IsVerified b) c.in-Ok.ensures.words (c.if-verify.ensures.0 refl);
        matrix = right.0;
        hints = right.1;
      },
      seen.1,
    )

pub returns-else-verify : goal.returns-else-verify
returns-else-verify c = λ h.
    let seen = c.in_ok-view.ensures in
    elim c.else-verify.branch [
      | else-verify-via-then-verify+else-check w ↦
          true≢false (sym (w.check.ensures.1 (subst IsRight (sym seen.1) (h.matrix, h.hints))) ∙ w.if-check.false)
      | else-verify-via-else-verify w ↦
          true≢false (sym (c.verify.ensures.1 (subst (λ (b : List ℕ). IsVerified b) (sym c.in-Ok.ensures.words) h.verified)) ∙ w.if-verify.false)
    ]
