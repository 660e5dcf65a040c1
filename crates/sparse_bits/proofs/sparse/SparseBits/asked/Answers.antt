-- The positions are those of the bits.
use Rattle.std.proofs.Common.{ℕ, List, length, refl, sym, ap, ◌∙◌, subst}
use Rattle.sparse_bits.proofs.lemmas.ValueLemmas.{bits_are, length_is}
use Rattle.sparse_bits.specs.Looks.{no_looks}
use Rattle.sparse_bits.specs.Positions.{bits_at, AreBitPositions}
use Rattle.sparse_bits.proofs.sparse.SparseBits.asked.Goals as goal

pub returns-clause-asked : goal.returns-clause-asked
returns-clause-asked g c =
    let positions = ap (λ l. l.positions) c.new.ensures in
    c.new.ensures
    ∙ (ap (λ p. no_looks p c.self.inside.len) (sym positions)
    ∙ ap (λ n. no_looks c.new.result.positions n) (sym (length_is c.self.inside.len c.self.inside.ones.items _ _ c.self.view_is refl c.self.invariant)))

pub returns-clause-bits : goal.returns-clause-bits
returns-clause-bits g c =
    ap (λ n. bits_at n 0 c.new.result.positions.items) (length_is c.self.inside.len c.self.inside.ones.items _ _ c.self.view_is refl c.self.invariant)
    ∙ (ap (bits_at c.self.inside.len 0) (ap (λ l. l.positions.items) c.new.ensures)
    ∙ sym (bits_are c.self.inside.len c.self.inside.ones.items _ _ c.self.view_is refl c.self.invariant))

pub returns-clause-positions : goal.returns-clause-positions
returns-clause-positions g c =
    subst (λ (xs : List ℕ). AreBitPositions (length c.args.self.now.bits) 0 xs) (sym (ap (λ l. l.positions.items) c.new.ensures))
    (subst (λ (n : ℕ). AreBitPositions n 0 c.self.inside.ones.items)
    (sym (length_is c.self.inside.len c.self.inside.ones.items _ _ c.self.view_is refl c.self.invariant)) c.self.invariant)
