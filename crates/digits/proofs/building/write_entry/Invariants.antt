use Rattle.std.proofs.Common.{◌≡◌, ℕ, ◌+◌, ◌*◌, ◌<◌, length, slice_index}
use Rattle.digits.specs.Tables.{FollowsEntry}
use Rattle.digits.proofs.building.write_entry.Given as goal

-- the numbers of the digits so far are written, and none before them
abbrev pub invariant-loop-digit : goal.invariant-loop-digit
invariant-loop-digit l =
    let old = l.fn.table in
    record {
      len : length l.table ≡ length old;
      numbers : (d : ℕ) → d < l.digit → FollowsEntry old l.entry l.counts d (slice_index l.table (4 * l.entry + d));
      kept : (i : ℕ) → i < 4 * l.entry → slice_index l.table i ≡ slice_index old i;
    }
