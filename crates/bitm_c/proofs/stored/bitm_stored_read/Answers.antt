-- What is read is the header that the file holds.
use Rattle.std.proofs.Common.{sym, subst}
use Rattle.bitm_abi.specs.Stored.{IsStored}
use Rattle.bitm_abi.specs.declared.layout.Stored.{Stored}
use Rattle.bitm_c.proofs.stored.bitm_stored_read.Goals as goal

pub returns-in-Some-clause-header : goal.returns-in-Some-clause-header
returns-in-Some-clause-header c = λ done.
    let is = c.in-Some.ensures.header in
    (is.1, subst (λ (h : Stored). IsStored h) (sym is.1) is.0.stored)
