use Rattle.std.proofs.Common.{◌≡◌, ℕ, ◌<◌}
use Rattle.bitm_tables.specs.Tables.{bits_in}
use Rattle.levels_view.specs.Check.{AreCountsAt}
use Rattle.levels_view.proofs.checking.are_counts.Given as goal

-- the entries so far are right, and the words are those that were given
abbrev pub invariant-loop-depth : goal.invariant-loop-depth
invariant-loop-depth g l =
    let T = g.T.TableSource in
    record {
      right : (d : ℕ) → d < l.depth → AreCountsAt l.levels (bits_in (T.lists l.fn.source)) d;
      same : T.lists l.source ≡ T.lists l.fn.source;
    }
