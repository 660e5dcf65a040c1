-- All levels were counted.
use Rattle.std.proofs.Common.{◌+◌, ◌*◌, ◌<◌, false, arith}
use Rattle.bitm_tables.specs.Tables.{bits_in}
use Rattle.bit_lists.proofs.BitLaws.{counts_grow}
use Rattle.matrix_block.proofs.building.write_counts.Goals as goal

pub returns : goal.returns
returns g c = λ d less.
    let i = c.loop-depth.invariant in
    let start = d * c.args.len in
    let below : d < c.loop-depth.depth = omega (arith, less, c.loop-depth-test.false, c.loop-depth.auto.depth-end) in
    record {
      ones_are = i.ones d below;
      zeros_are = omega (
        arith,
        i.zeros d below,
        counts_grow (bits_in (g.T.TableSource.lists c.args.source.now)) false start (start + c.args.len) (omega arith),
      );
    }
