use Rattle.std.proofs.Common.{refl, sym, ◌∙◌}
use Rattle.sparse_bits.proofs.lemmas.ValueLemmas.{ones_are}
use Rattle.sparse_bits.proofs.sparse.SparseBits.count_bit_ones.Goals as goal

pub returns-clause-count : goal.returns-clause-count
returns-clause-count g c = c.len.ensures.count ∙ sym (ones_are c.self.inside.len c.self.inside.ones.items _ _ c.self.view_is refl c.self.invariant)
