use Rattle.std.proofs.Common.{◌+◌, ◌*◌, ℕ, List}
use Rattle.bitm_tables.specs.Reads.{OnlyReads}
use Rattle.elias_fano.specs.SequenceParts.{parts_with, Holds}
use Rattle.elias_fano.specs.Low.{ReadsFragments}
use Rattle.postings.specs.Spot.{IsBehind}
use Rattle.postings.proofs.near.walk_on.Given as goal

-- the numbers so far are less
abbrev pub invariant-loop-step : goal.invariant-loop-step
invariant-loop-step g l = record {
  reads : OnlyReads g.T.TableSource.lists g.T.TableSource.reads l.fn.source l.source 0 0 (2 * l.step);
  fragments : ReadsFragments l.fn.low l.low l.step;
  behind : (xs : List ℕ) → Holds xs (parts_with l.n l.fn.low (g.T.TableSource.lists l.fn.source))
      → IsBehind xs (g.T.TableSource.lists l.fn.source).words l.v l.at l.fn.position
      → IsBehind xs (g.T.TableSource.lists l.fn.source).words l.v (l.at + l.step) l.position;
}
