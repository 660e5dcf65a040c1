use Rattle.std.proofs.Common.{◌∙◌, sym}
use Rattle.std.proofs.lemmas.Bool.{both_ways, true≢false}
use Rattle.program_files.proofs.texts.answering.opened.Goals.{else-sums-via-then-sums+else-not-is_verified, else-sums-via-else-sums}
use Rattle.program_files.proofs.texts.answering.opened.Goals as goal

pub returns-then-not-is_verified : goal.returns-then-not-is_verified
returns-then-not-is_verified c = λ o.
    both_ways c.is_verified.result c.if-not-is_verified.true
    (c.is_verified.ensures.1 (o.text_block.is_block, o.verified c.if-sums.true))

pub returns : goal.returns
returns c = (
  record {
    text_block = c.in_ok-view.ensures.0;
    verified = λ yes. elim c.else-sums.branch [
      | else-sums-via-then-sums+else-not-is_verified w ↦ (w.is_verified.ensures.0 w.if-not-is_verified.false).1
      | else-sums-via-else-sums w ↦ absurd (true≢false (sym yes ∙ w.if-sums.false))
    ];
  },
  c.in_ok-view.ensures.1,
)
