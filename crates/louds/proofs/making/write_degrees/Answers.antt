-- One node more.
use Rattle.std.proofs.Common.{◌<◌, length, get_or, refl, arith}
use Rattle.bit_lists.specs.Bits.{bits_of}
use Rattle.louds.proofs.lemmas.TreeLemmas.{zero_position_more}
use Rattle.louds.proofs.lemmas.WriteLemmas.{begun_more, fill_run}
use Rattle.louds.proofs.making.write_degrees.Goals as goal

pub loop-i-preserved : goal.loop-i-preserved
loop-i-preserved c =
    let d = c.args.degrees.now in
    let i = c.loop-i.i in
    let inside : i < length d = omega (arith, c.loop-i-test.true) in
    let wrote = c.fill_range-in-loop-i.ensures in
    record {
      position = omega (arith, c.loop-i.invariant.position, zero_position_more d i inside);
      begun = begun_more d i c.loop-i.position (bits_of c.loop-i.words) _ c.loop-i.invariant.begun inside c.loop-i.invariant.position
          (fill_run _ _ (get_or d i 0) _ _ refl wrote.inside wrote.beside);
    }
