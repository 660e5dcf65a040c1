use Rattle.std.proofs.Common.{◌≡◌, ◌<◌, ◌≤◌, ℕ, take}
use Rattle.std.specs.List.{slice_index, sum}
use Rattle.hash_block.proofs.levels.fitting.Given as goal

-- the levels so far have words, and these are within those that there are
abbrev pub invariant-loop-size : goal.invariant-loop-size
invariant-loop-size l = record {
  used : l.used ≡ sum (take l.size-index l.sizes);
  some : (i : ℕ) → i < l.size-index → 0 < slice_index l.sizes i;
  inside : l.used ≤ l.words;
}
