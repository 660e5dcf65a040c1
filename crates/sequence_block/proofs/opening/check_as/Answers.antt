-- The view is that of the sequence in the block.
use Rattle.std.proofs.Common.{◌≡◌, List, ℕ, SomeIff, Option, sym, subst}
use Rattle.bitm_block.specs.Header.{IsVerified}
use Rattle.elias_fano.specs.SequenceParts.{AreParts, SequenceParts}
use Rattle.sequence_block.specs.Block.{sequence_in, IsBlockOfKind}
use Rattle.sequence_block.proofs.opening.check_as.Goals as goal
use Rattle.sequence_block.proofs.opening.check_as.Goals.{After-verify}

-- what was opened
opened : (c : After-verify) → IsBlockOfKind c.args.kind c.args.block.now × (c.in-Some-Ok.sequence ≡ sequence_in c.args.block.now)
opened c =
    let block = c.args.block.now in
    let P : Option SequenceParts → Type 0 = λ o. SomeIff o (IsBlockOfKind c.args.kind block) (sequence_in block) in
    subst P c.in-Some-Ok.is-0 c.open_as.ensures

pub returns-then-verify : goal.returns-then-verify
returns-then-verify c =
    let is = opened (goal.at.returns-then-verify c).After-verify in
    let P : SequenceParts → Type 0 = λ p. AreParts p in
    let V : List ℕ → Type 0 = λ words. IsVerified words in (
      λ yes. record {
        sequence_block = is.0;
        verified = subst V c.in-Some-Ok.ensures.words (c.verify.ensures.0 c.if-verify.true);
        parts = subst P is.1 (c.check.ensures.0 yes);
      },
      λ sound. c.check.ensures.1 (subst P (sym is.1) sound.parts),
    )

pub returns-else-verify : goal.returns-else-verify
returns-else-verify c =
    let V : List ℕ → Type 0 = λ words. IsVerified words in (
      λ yes. cc,
      λ sound. c.verify.ensures.1 (subst V (sym c.in-Some-Ok.ensures.words) sound.verified),
    )
