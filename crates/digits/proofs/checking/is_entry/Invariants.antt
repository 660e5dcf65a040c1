use Rattle.std.proofs.Common.{ℕ, ◌+◌, ◌*◌, ◌<◌, slice_index}
use Rattle.digits.specs.Tables.{FollowsEntry}
use Rattle.digits.proofs.checking.is_entry.Given as goal

-- the numbers of the digits so far are right
abbrev pub invariant-loop-digit : goal.invariant-loop-digit
invariant-loop-digit l = (d : ℕ) → d < l.digit → FollowsEntry l.table l.entry l.counts d (slice_index l.table (4 * l.entry + d))
