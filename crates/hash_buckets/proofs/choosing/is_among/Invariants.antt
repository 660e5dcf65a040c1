use Rattle.std.proofs.Common.{◌≡◌, ℕ, ◌+◌, take}
use Rattle.hash_buckets.specs.Seeds.{count_at}
use Rattle.hash_buckets.proofs.choosing.is_among.Given as goal

-- none so far has the slot
abbrev pub invariant-loop-hash : goal.invariant-loop-hash
invariant-loop-hash l = (first : ℕ) → count_at l.level l.seed first (take l.hash-index l.hashes) (first + l.slot) ≡ 0
