-- The view that was opened is that of the block.
use Rattle.std.proofs.Common.{List, ℕ, sym, subst, ◌∙◌, true≢false}
use Rattle.bitm_block.specs.Header.{IsVerified}
use Rattle.hash_block.specs.Parts.{IsHash}
use Rattle.hash_block.specs.SeededParts.{SeededParts}
use Rattle.hash_block.proofs.seeded.opening.check.Goals as goal

pub returns-then-verify : goal.returns-then-verify
returns-then-verify c =
    let view = c.in-Some-Ok.ensures.view in
    let P : SeededParts → Type 0 = λ parts. IsHash parts.hash in (
      λ yes. record {
        seeded_block = view.0;
        verified = subst (λ (b : List ℕ). IsVerified b) c.in-Some-Ok.ensures'.words (c.verify.ensures.0 c.if-verify.true);
        hash = subst P view.1 (c.check.ensures.0 yes);
      },
      λ sound. c.check.ensures.1 (subst P (sym view.1) sound.hash),
    )

pub returns-else-verify : goal.returns-else-verify
returns-else-verify c = (
  λ yes. absurd (true≢false (sym yes ∙ c.if-verify.false)),
  λ sound. c.verify.ensures.1 (subst (λ (b : List ℕ). IsVerified b) (sym c.in-Some-Ok.ensures'.words) sound.verified),
)
