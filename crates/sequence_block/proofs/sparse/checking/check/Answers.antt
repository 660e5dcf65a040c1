-- The positions rise below the number of bits, whichever numbers the parts hold.
use Rattle.std.proofs.Common.{ℕ, refl, sym, ap, ◌∙◌, subst}
use Rattle.elias_fano.specs.SequenceParts.{Holds, SequenceParts}
use Rattle.sparse_bits.specs.Positions.{AreBitPositions}
use Rattle.sequence_block.specs.SparseBlock.{SparseParts}
use Rattle.sequence_block.proofs.sparse.checking.check.Goals as goal

pub returns-in-Some : goal.returns-in-Some
returns-in-Some c =
    let sound = c.if-not-check_as.ensures.0 refl in
    let is = c.in-Some.ensures.1 in
    let parts = ap (λ (v : SparseParts). v.positions) (c.view.view_is ∙ is) in
    let len = c.len.ensures ∙ ap (λ (v : SparseParts). v.len) is in (
      λ rise.
          let xs = sound.parts.0 in
          let positions = (c.rise_below.ensures xs (subst (λ (p : SequenceParts). Holds xs p) (sym parts) sound.parts.1)).0 rise in
          record {
            sequence = sound;
            bits = (xs, record { holds = sound.parts.1; positions = subst (λ (n : ℕ). AreBitPositions n 0 xs) len positions });
          },
      λ whole.
          let xs = whole.bits.0 in
          let ones = whole.bits.1 in
          (c.rise_below.ensures xs (subst (λ (p : SequenceParts). Holds xs p) (sym parts) ones.holds)).1
          (subst (λ (n : ℕ). AreBitPositions n 0 xs) (sym len) ones.positions),
    )
