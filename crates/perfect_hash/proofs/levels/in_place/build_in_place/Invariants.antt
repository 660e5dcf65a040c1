use Rattle.std.proofs.Common.{◌≤◌, length}
use Rattle.perfect_hash.proofs.lemmas.InPlaceLemmas.{IsBuilt}
use Rattle.perfect_hash.proofs.levels.in_place.build_in_place.Given as goal

-- the levels so far leave the hashes in front
abbrev pub invariant-loop-level : goal.invariant-loop-level
invariant-loop-level l = record {
  few : l.left ≤ length l.hashes;
  within : l.used ≤ length l.words;
  built : IsBuilt l.percent l.fn.hashes l.sizes l.words l.hashes l.level l.used l.left;
}
