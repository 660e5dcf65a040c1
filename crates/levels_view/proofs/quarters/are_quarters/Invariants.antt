use Rattle.std.proofs.Common.{◌≡◌, ℕ, ◌/◌, ◌<◌, slice_index}
use Rattle.bitm_tables.specs.Tables.{bits_in}
use Rattle.levels_view.specs.Quarters.{CountsToQuarter}
use Rattle.levels_view.proofs.quarters.are_quarters.Given as goal

-- the quarters so far are right, and the words are those that were given
abbrev pub invariant-loop-quarter : goal.invariant-loop-quarter
invariant-loop-quarter g l =
    let T = g.T.TableSource in
    record {
      right : (k : ℕ) → k < l.quarter → CountsToQuarter (bits_in (T.lists l.fn.source)) k (slice_index l.quarters (k / 4));
      same : T.lists l.source ≡ T.lists l.fn.source;
    }
