use Rattle.std.proofs.Common.{sym, ap, ◌∙◌}
use Rattle.bitm.specs.Count.{ones_of}
use Rattle.bitm.specs.Reads.{Probed}
use Rattle.bitm.specs.Tables.{bits_in}
use Rattle.test_index.proofs.ComputedLemmas.{ones_all}
use Rattle.test_index.proofs.calls.computed.Computed.ones.Goals as goal

pub returns : goal.returns
returns c = sym (ones_all c.self.inside.len) ∙ ap (λ (p : Probed). ones_of (bits_in p.lists)) c.self.view_is
