use Rattle.std.proofs.Common.{get_or, length, sym, ap, ◌∙◌, arith}
use Rattle.bitm.specs.Reads.{Probed}
use Rattle.test_index.proofs.ComputedLemmas.{lower_at}
use Rattle.test_index.proofs.calls.computed.ComputedTableSource.lower.Goals as goal

pub returns-clause-item : goal.returns-clause-item
returns-clause-item c =
    let len = ap (λ (p : Probed). length p.lists.lower) c.self.view_is in
    sym (lower_at c.self.inside.len c.self.invariant.1 c.args.at (omega (arith, c.requires, len)))
    ∙ ap (λ (p : Probed). get_or p.lists.lower c.args.at 0) c.self.view_is
