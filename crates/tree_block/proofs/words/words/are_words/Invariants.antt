use Rattle.std.proofs.Common.{ℕ, ◌+◌, ◌<◌, ◌≤◌, get_or}
use Rattle.tree_block.proofs.words.words.are_words.Given as goal

-- no position so far is before the one before it
abbrev pub invariant-loop-j : goal.invariant-loop-j
invariant-loop-j l = (i : ℕ) → i < l.j → get_or l.starts i 0 ≤ get_or l.starts (i + 1) 0
