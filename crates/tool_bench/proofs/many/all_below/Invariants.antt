use Rattle.std.proofs.Common.{◌<◌}
use Rattle.std.specs.List.{AllWithin}
use Rattle.tool_bench.proofs.many.all_below.Given as goal

-- those so far are below it
abbrev pub invariant-loop-n : goal.invariant-loop-n
invariant-loop-n l = AllWithin (λ n. n < l.limit) l.numbers 0 l.n-index
