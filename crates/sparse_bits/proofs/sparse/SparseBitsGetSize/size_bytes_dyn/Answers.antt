use Rattle.std.proofs.Common.{refl, ◌∙◌}
use Rattle.sparse_bits.proofs.lemmas.ValueLemmas.{size_is}
use Rattle.sparse_bits.proofs.sparse.SparseBitsGetSize.size_bytes_dyn.Goals as goal

pub returns : goal.returns
returns g c = c.size_bytes_dyn.ensures ∙ size_is c.self.inside.len c.self.inside.ones.items _ _ c.self.view_is refl c.self.invariant g.S.GetSize.dyn_bytes g.S0.GetSize.dyn_bytes
