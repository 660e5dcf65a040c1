use Rattle.std.proofs.Common.{◌≡◌, ℕ, ◌<◌, ◌≤◌, length, get_or}
use Rattle.tree_block.proofs.words.words.common_len.Given as goal

-- the letters so far are the same
abbrev pub invariant-loop-at : goal.invariant-loop-at
invariant-loop-at l = record {
  fits : l.at ≤ length l.right;
  same : (t : ℕ) → t < l.at → get_or l.left t 0 ≡ get_or l.right t 0;
}
