use Rattle.std.proofs.Common.{length, sym, ap, ◌∙◌}
use Rattle.bitm.specs.Reads.{Probed}
use Rattle.test_index.proofs.ComputedLemmas.{uppers_len}
use Rattle.test_index.proofs.calls.computed.ComputedTableSource.upper_len.Goals as goal

pub returns : goal.returns
returns c = c.div_ceil.ensures ∙ sym (uppers_len c.self.inside.len) ∙ ap (λ (p : Probed). length p.lists.upper) c.self.view_is
