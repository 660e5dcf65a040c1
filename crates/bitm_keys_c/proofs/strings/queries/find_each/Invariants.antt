use Rattle.std.proofs.Common.{ℕ, ◌<◌, slice_index}
use Rattle.bitm_view.specs.Queries.{selected_by}
use Rattle.hash_block.specs.Given.{given, len_of}
use Rattle.bitm_keys_c.specs.Strings.{IsNumberOfString}
use Rattle.bitm_keys_c.proofs.strings.queries.find_each.Given as goal

-- the answers so far
abbrev pub invariant-loop-at : goal.invariant-loop-at
invariant-loop-at l = (j : ℕ) → j < l.at → IsNumberOfString (given l.bytes l.ends j) (len_of l.ends j) l.view (selected_by (slice_index l.out j))
