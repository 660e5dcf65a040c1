use Rattle.std.proofs.Common.{◌<◌}
use Rattle.std.specs.List.{AllWithin}
use Rattle.example_callers.proofs.many.all_below.Given as goal

-- those so far are below it
abbrev pub invariant-loop-rank : goal.invariant-loop-rank
invariant-loop-rank l = AllWithin (λ r. r < l.ones) l.ranks 0 l.rank-index
