use Rattle.std.proofs.Common.{length, sym, ap, ◌∙◌}
use Rattle.bitm.specs.Reads.{Probed}
use Rattle.test_index.proofs.ComputedLemmas.{lowers_len}
use Rattle.test_index.proofs.calls.computed.ComputedTableSource.lower_len.Goals as goal

pub returns : goal.returns
returns c = sym (lowers_len c.self.inside.len c.self.invariant.1) ∙ ap (λ (p : Probed). length p.lists.lower) c.self.view_is
