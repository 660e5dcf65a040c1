use Rattle.std.proofs.Common.{ℕ, ◌+◌, ◌<◌}
use Rattle.tree_block.specs.Words.{dictionary_word, IsWordBefore}
use Rattle.tree_block.proofs.words.words.unsorted_in.Given as goal

-- each word so far stands before the next one
abbrev pub invariant-loop-j : goal.invariant-loop-j
invariant-loop-j l = (i : ℕ) → i + 1 < l.j → IsWordBefore (dictionary_word l.bytes l.starts i) (dictionary_word l.bytes l.starts (i + 1))
