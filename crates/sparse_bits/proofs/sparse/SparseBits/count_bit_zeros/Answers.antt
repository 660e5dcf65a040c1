use Rattle.std.proofs.Common.{refl, arith}
use Rattle.sparse_bits.proofs.lemmas.ValueLemmas.{zeros_are}
use Rattle.sparse_bits.proofs.sparse.SparseBits.count_bit_zeros.Goals as goal

pub overflow_sub-result : goal.overflow_sub-result
overflow_sub-result g c = omega (arith, c.len.ensures.count, zeros_are c.self.inside.len c.self.inside.ones.items _ _ c.self.view_is refl c.self.invariant)

pub returns : goal.returns
returns g c = omega (arith, c.len.ensures.count, zeros_are c.self.inside.len c.self.inside.ones.items _ _ c.self.view_is refl c.self.invariant)
