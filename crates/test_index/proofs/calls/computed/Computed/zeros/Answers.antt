use Rattle.std.proofs.Common.{sym, ap, ◌∙◌}
use Rattle.bitm.specs.Count.{zeros_of}
use Rattle.bitm.specs.Reads.{Probed}
use Rattle.bitm.specs.Tables.{bits_in}
use Rattle.test_index.proofs.ComputedLemmas.{zeros_all}
use Rattle.test_index.proofs.calls.computed.Computed.zeros.Goals as goal

pub returns : goal.returns
returns c = sym (zeros_all c.self.inside.len) ∙ ap (λ (p : Probed). zeros_of (bits_in p.lists)) c.self.view_is
