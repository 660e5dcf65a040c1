use Rattle.std.proofs.Common.{length, sym, ap, ◌∙◌}
use Rattle.bitm.specs.Reads.{Probed}
use Rattle.test_index.proofs.ComputedLemmas.{words_len}
use Rattle.test_index.proofs.calls.computed.ComputedTableSource.words_len.Goals as goal

pub returns : goal.returns
returns c = sym (words_len c.self.inside.len) ∙ ap (λ (p : Probed). length p.lists.words) c.self.view_is
