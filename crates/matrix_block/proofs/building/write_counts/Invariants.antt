use Rattle.std.proofs.Common.{◌≡◌, ◌+◌, ◌-◌, ◌*◌}
use Rattle.bit_lists.specs.Count.{ones_before, zeros_before}
use Rattle.bitm_tables.specs.Tables.{bits_in}
use Rattle.tables_view.specs.Sizes.{IsFilled}
use Rattle.matrix_block.proofs.building.write_counts.Given as goal

-- the entries of the levels up to this one, and the words are those that were given
abbrev pub invariant-loop-depth : goal.invariant-loop-depth
invariant-loop-depth g l =
    let T = g.T.TableSource in
    let b = bits_in (T.lists l.fn.source) in
    record {
      ones : IsFilled (λ d. ones_before b (d * l.len)) l.ones l.depth;
      zeros : IsFilled (λ d. zeros_before b (d * l.len + l.len) - zeros_before b (d * l.len)) l.zeros l.depth;
      same : T.lists l.source ≡ T.lists l.fn.source;
    }
