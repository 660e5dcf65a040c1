-- The bit is set where no hash fell, else marked again.
use Rattle.std.proofs.Common.{length, get_or, refl, sym, ap, ◌∙◌, arith}
use Rattle.bit_lists.specs.Bits.{bits_of}
use Rattle.bit_lists.proofs.BitLaws.{bits_are_counted}
use Rattle.perfect_hash.proofs.lemmas.MarkLemmas.{IsMarked-none, IsMarked-same, IsMarked-first, IsMarked-again}
use Rattle.perfect_hash.proofs.levels.level.mark.Goals as goal
use Rattle.perfect_hash.proofs.levels.level.mark.Goals.{then-get_bit, else-get_bit}

pub loop-hash-init : goal.loop-hash-init
loop-hash-init g c =
    IsMarked-none (g.P.Placing.fall c.args.placing.now c.args.begin) c.args.hashes.now c.args.level (length c.args.hit.now) (bits_of c.args.hit.now) (bits_of c.args.again.now)
    c.requires.clear c.requires.clear_again

pub loop-hash-preserved : goal.loop-hash-preserved
loop-hash-preserved g c =
    let fall = g.P.Placing.fall c.args.placing.now c.args.begin in
    let hashes = c.args.hashes.now in
    let words = length c.args.hit.now in
    let hit = bits_of c.loop-hash.hit in
    let again = bits_of c.loop-hash.again in
    let i = c.loop-hash.hash-index in
    let position = c.position-position.result in
    elim c.if-get_bit.branch [
      | then-get_bit w ↦ IsMarked-same fall _ c.args.level words _ _ _ _
          (IsMarked-again fall hashes c.args.level words i (get_or hashes i 0) 0 position
          c.loop-hash-test.true refl c.position-position.ensures.at
          hit again c.loop-hash.invariant c.position-position.ensures.inside
          (omega (arith, bits_are_counted c.loop-hash.again)) (sym c.get_bit.ensures ∙ w.if-get_bit.true))
          (ap bits_of w.hit-is) (ap bits_of w.again-is ∙ w.set_bit.ensures)
      | else-get_bit w ↦ IsMarked-same fall _ c.args.level words _ _ _ _
          (IsMarked-first fall hashes c.args.level words i (get_or hashes i 0) 0 position
          c.loop-hash-test.true refl c.position-position.ensures.at
          hit again c.loop-hash.invariant c.position-position.ensures.inside
          (omega (arith, bits_are_counted c.loop-hash.hit)) (sym c.get_bit.ensures ∙ w.if-get_bit.false))
          (ap bits_of w.hit-is ∙ w.set_bit-else-get_bit.ensures) (ap bits_of w.again-is)
    ]
