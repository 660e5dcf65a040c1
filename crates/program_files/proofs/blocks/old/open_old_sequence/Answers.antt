-- The parts of a file are those that were checked.
use Rattle.std.proofs.Common.{◌≡◌, ℕ, List, sym, subst, ◌∙◌, ap}
use Rattle.std.proofs.lemmas.Bool.{true≢false}
use Rattle.bitm_abi.specs.Stored.{header_in, IsHeaded}
use Rattle.bitm_abi.specs.declared.layout.Stored.{Stored}
use Rattle.elias_fano.specs.SequenceParts.{AreParts, SequenceParts}
use Rattle.program_files.specs.Old.{old_sequence_in, sequence_at, HasSequence, IsOldSequence}
use Rattle.program_files.proofs.blocks.old.open_old_sequence.Goals as goal

old_right : (file : List ℕ) (header : Stored) (sequence : SequenceParts) → IsHeaded file × (header ≡ header_in file) → header.kind ≡ 2
    → HasSequence file header × (sequence ≡ sequence_at file header) → AreParts sequence → IsOldSequence file × (sequence ≡ old_sequence_in file)
old_right file header sequence headed kind has parts =
    let same : sequence ≡ old_sequence_in file = has.1 ∙ ap (sequence_at file) headed.1 in (
      record {
        headed = headed.0;
        kind = ap (λ (h : Stored). h.kind) (sym headed.1) ∙ kind;
        has = subst (HasSequence file) headed.1 has.0;
        parts = subst (λ (p : SequenceParts). AreParts p) same parts;
      },
      same,
    )

pub returns-then-check-clause-opened : goal.returns-then-check-clause-opened
returns-then-check-clause-opened c =
    old_right c.args.file.now c.in_ok-header.header c.in_ok-sequence.sequence c.in_ok-header.ensures.header c.if-header-ne2.false c.in_ok-sequence.ensures
    (c.check.ensures.0 c.if-check.true)

pub returns-then-check-clause-holds : goal.returns-then-check-clause-holds
returns-then-check-clause-holds c = c.check.ensures.0 c.if-check.true

pub returns-else-check-clause-opened : goal.returns-else-check-clause-opened
returns-else-check-clause-opened c = λ old.
    let same : c.in_ok-sequence.sequence ≡ old_sequence_in c.args.file.now = c.in_ok-sequence.ensures.1 ∙ ap (sequence_at c.args.file.now) c.in_ok-header.ensures.header.1 in
    true≢false (sym (c.check.ensures.1 (subst (λ (p : SequenceParts). AreParts p) (sym same) old.parts)) ∙ c.if-check.false)
