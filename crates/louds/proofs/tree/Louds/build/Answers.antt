-- The bits that were written hold the tree.
use Rattle.std.proofs.Common.{ℕ, List, length, refl, sym, ap, arith, subst}
use Rattle.std.specs.Box.{boxed_slice_items}
use Rattle.bit_lists.proofs.BitLaws.{bits_are_counted}
use Rattle.bit_lists.specs.Bits.{bits_of}
use Rattle.louds.proofs.lemmas.HeldLemmas.{held, degrees_of-is, held_degrees}
use Rattle.louds.specs.Held.{IsHeld}
use Rattle.louds.proofs.tree.Louds.build.Goals as goal
use Rattle.louds.proofs.tree.Louds.build.Goals.{In-Ok}

holds : (g : _) (c : In-Ok g) → IsHeld c.args.degrees.now (length c.args.degrees.now) (bits_of (boxed_slice_items c.in-Ok.index.content))
holds g c =
    let d = c.args.degrees.now in
    let words = boxed_slice_items c.in_ok-bits.bits in
    let P : List ℕ → Type 0 = λ ws. IsHeld d (length d) (bits_of ws) in
    subst P (sym (ap boxed_slice_items c.in-Ok.ensures.kept))
    (held d (length d) (bits_of words)
    (c.is_tree.ensures.0 c.if-not-is_tree.false)
    refl (omega (arith, c.if-degrees-ge-TOO_MANY.false)) c.in_ok-bits.ensures.written
    (omega (arith, bits_are_counted words, c.in_ok-bits.ensures.len)))

pub invariant_of-result : goal.invariant_of-result
invariant_of-result g c = held_degrees _ _ _ (holds g c)

pub returns-in-Ok-clause-ok : goal.returns-in-Ok-clause-ok
returns-in-Ok-clause-ok g c = degrees_of-is _ _ _ (holds g c)
