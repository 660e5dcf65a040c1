use Rattle.std.proofs.Common.{◌≡◌, ◌<◌, ◌≤◌, ℕ, take}
use Rattle.std.specs.List.{slice_index, sum}
use Rattle.perfect_hash.proofs.listed.levels_within.Given as goal

-- the levels so far have words, and these are within those that there are
abbrev pub invariant-loop-level : goal.invariant-loop-level
invariant-loop-level l = record {
  used : l.used ≡ sum (take l.level l.sizes);
  some : (i : ℕ) → i < l.level → 0 < slice_index l.sizes i;
  inside : l.used ≤ l.words;
}
