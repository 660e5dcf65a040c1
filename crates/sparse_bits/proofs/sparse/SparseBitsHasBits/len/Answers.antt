use Rattle.std.proofs.Common.{refl, sym}
use Rattle.sparse_bits.proofs.lemmas.ValueLemmas.{length_is}
use Rattle.sparse_bits.proofs.sparse.SparseBitsHasBits.len.Goals as goal

pub returns : goal.returns
returns g c = sym (length_is c.self.inside.len c.self.inside.ones.items _ _ c.self.view_is refl c.self.invariant)
