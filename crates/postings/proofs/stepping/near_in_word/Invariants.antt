use Rattle.std.proofs.Common.{◌<◌, ℕ, List}
use Rattle.elias_fano.specs.Low.{ReadsFragments}
use Rattle.elias_fano.specs.Parts.{ArePartsOf}
use Rattle.postings.specs.Spot.{IsSpot}
use Rattle.postings.proofs.stepping.near_in_word.Given as goal

-- the numbers so far are less
abbrev pub invariant-loop-step : goal.invariant-loop-step
invariant-loop-step l = record {
  fragments : ReadsFragments l.fn.low l.low l.step;
  inside : l.last.at < l.n;
  less : l.last.number < l.v;
  spot : (xs : List ℕ) → ArePartsOf xs l.n l.fn.low.width l.fn.low.words l.words → IsSpot xs l.words l.fn.spot → IsSpot xs l.words l.last;
}
