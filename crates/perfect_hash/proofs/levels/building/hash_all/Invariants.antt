use Rattle.std.proofs.Common.{◌≡◌, take}
use Rattle.std.specs.Prelude.{map}
use Rattle.perfect_hash.proofs.levels.building.hash_all.Given as goal

-- those of the keys so far
abbrev pub invariant-loop-key : goal.invariant-loop-key
invariant-loop-key g l = l.hashes.items ≡ map (g.H.KeyHash.hash l.hasher) (take l.key-index l.keys)
