use Rattle.std.proofs.Common.{◌≡◌, List, Bool}
use Rattle.bit_lists.specs.Count.{as_bit}
use Rattle.bitm_strategies.specs.Samples.{IsSummaryOf, samples_of_parts}
use Rattle.bitm_strategies.proofs.samples.make_samples.Given as goal

-- the samples of the parts so far
abbrev pub invariant-loop-part : goal.invariant-loop-part
invariant-loop-part g l =
    (b : List Bool) → IsSummaryOf b l.summary → l.samples.items ≡ samples_of_parts b (as_bit g.row.BIT) l.log2 l.part
