use Rattle.std.proofs.Common.{drop, refl, sym, ap, ◌∙◌, arith}
use Rattle.sparse_bits.proofs.lemmas.ValueLemmas.{ones_are, positions_are}
use Rattle.sparse_bits.proofs.sparse.SparseBits.bit_ones_from.Goals as goal

pub iter_from-requires : goal.iter_from-requires
iter_from-requires g c = omega (arith, c.requires, ones_are c.self.inside.len c.self.inside.ones.items _ _ c.self.view_is refl c.self.invariant)

pub returns : goal.returns
returns g c = c.iter_from.ensures ∙ ap (drop c.args.rank) (sym (positions_are c.self.inside.len c.self.inside.ones.items _ _ c.self.view_is refl c.self.invariant))
