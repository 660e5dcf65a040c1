use Rattle.std.proofs.Common.{ℕ, ◌+◌, ◌<◌, Bool, true, false, List, length, get_or}
use Rattle.std.specs.Bool.{MatchBool}
use Rattle.std.proofs.lemmas.List.Sorted.{non_decreasing_from_is_sorted}
use Rattle.std.specs.List.Sorted.{IsNonDecreasing}
use Rattle.elias_fano.specs.Sequence.{HasFall}
use Rattle.elias_fano.proofs.checking.is_rising.Goals as goal

-- a fall, whatever stands past the end
at_zero : (xs : List ℕ) (r : Bool)
    → MatchBool r (IsNonDecreasing xs) ((k : ℕ) × (k + 1 < length xs) × ((d : ℕ) → get_or xs (k + 1) d < get_or xs k d))
    → MatchBool r (IsNonDecreasing xs) (HasFall xs)
at_zero xs true rising = rising
at_zero xs false fall = (fall.0, fall.1, fall.2 0)

pub returns : goal.returns
returns c =
    at_zero c.args.items.now c.is_sorted.result
    (non_decreasing_from_is_sorted c.args.items.now c.is_sorted.result c.is_sorted.ensures.cases)
