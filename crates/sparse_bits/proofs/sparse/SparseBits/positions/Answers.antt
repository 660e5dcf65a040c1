use Rattle.std.proofs.Common.{refl, sym}
use Rattle.sparse_bits.proofs.lemmas.ValueLemmas.{positions_are}
use Rattle.sparse_bits.proofs.sparse.SparseBits.positions.Goals as goal

pub returns : goal.returns
returns g c = sym (positions_are c.self.inside.len c.self.inside.ones.items _ _ c.self.view_is refl c.self.invariant)
