-- The zero is where it stands.
use Rattle.std.proofs.Common.{Some, ap, arith}
use Rattle.louds.proofs.lemmas.HeldLemmas.{has_zero, zero_is}
use Rattle.louds.proofs.queries.zero_by.Goals as goal

pub returns-in-Found-clause-position : goal.returns-in-Found-clause-position
returns-in-Found-clause-position g c = λ h f.
    ap Some (zero_is _ _ _ h.held c.args.node _ c.requires.node (c.in-Found.ensures.answer h.indexed.tables f))

pub returns-in-Absent-clause-position : goal.returns-in-Absent-clause-position
returns-in-Absent-clause-position g c = λ h f.
    absurd (omega (arith, has_zero _ _ _ h.held c.args.node c.requires.node, c.in-Absent.ensures.answer h.indexed.tables f))
