use Rattle.std.proofs.Common.{◌^◌, ◌<◌}
use Rattle.std.specs.List.{AllWithin}
use Rattle.matrix_levels.proofs.digits.all_fit.Given as goal

-- those so far are below it
abbrev pub invariant-loop-number : goal.invariant-loop-number
invariant-loop-number l = AllWithin (λ x. x < 2 ^ l.width) l.numbers 0 l.number-index
