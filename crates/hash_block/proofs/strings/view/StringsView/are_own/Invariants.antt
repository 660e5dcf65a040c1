use Rattle.std.proofs.Common.{ℕ, ◌<◌}
use Rattle.hash_block.specs.StringsParts.{IsOwn}
use Rattle.hash_block.proofs.strings.view.StringsView.are_own.Given as goal

-- the strings so far have their numbers
abbrev pub invariant-loop-v : goal.invariant-loop-v
invariant-loop-v l = record { own : (k : ℕ) → k < l.v → IsOwn l.self k }
