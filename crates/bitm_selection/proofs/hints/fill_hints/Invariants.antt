use Rattle.std.specs.Prelude.{◌≡◌, ◌<◌, ℕ, slice_index}
use Rattle.bit_lists.specs.Count.{as_bit}
use Rattle.bitm_tables.specs.Tables.{bits_in}
use Rattle.bitm_selection.specs.Hints.{ArePair}
use Rattle.bitm_selection.proofs.hints.fill_hints.Given as goal

-- the pairs so far are hints
abbrev pub invariant-loop-at : goal.invariant-loop-at
invariant-loop-at g l =
    let T = g.T.TableSource in
    record {
      pairs : (k : ℕ) → k < l.at → ArePair (as_bit g.row.BIT) (bits_in (T.lists l.fn.source)) k (slice_index l.hints k);
      same : T.lists l.source ≡ T.lists l.fn.source;
    }
