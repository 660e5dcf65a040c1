-- The last number that was written is the greatest.
use Rattle.std.proofs.Common.{◌-◌, ◌<◌, length, arith}
use Rattle.std.proofs.lemmas.Bool.{lt-ltb, ltb-true}
use Rattle.std.proofs.lemmas.List.Elements.{All-get_or}
use Rattle.matrix_block.proofs.TallyLemmas.{last-decides}
use Rattle.matrix_block.proofs.tallies.goes_on.Goals as goal

pub returns-else-len-eq0 : goal.returns-else-len-eq0
returns-else-len-eq0 c =
    let written = c.args.written.now in (
      λ test. (omega (arith, c.if-number-from.false), last-decides written c.args.number c.requires (ltb-true _ _ test)),
      λ h. lt-ltb _ _ (All-get_or (λ x. x < c.args.number) written (length written - 1) 0 (omega (arith, c.if-len-eq0.false)) h.1),
    )
