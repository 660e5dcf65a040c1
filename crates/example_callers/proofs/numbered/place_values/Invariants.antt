use Rattle.std.proofs.Common.{◌≡◌, ℕ, ◌<◌}
use Rattle.std.specs.Option.{IfSome}
use Rattle.std.specs.Prelude.{slice_index}
use Rattle.perfect_hash.specs.Parts.{number_of}
use Rattle.example_callers.proofs.numbered.place_values.Given as goal

-- the values so far stand at the numbers of their keys
abbrev pub invariant-loop-i : goal.invariant-loop-i
invariant-loop-i g l =
    (j : ℕ) → j < l.i
    → IfSome (number_of g.H.KeyHash.hash l.numbers (slice_index l.keys j)) (λ v. slice_index l.placed v ≡ slice_index l.values j)
