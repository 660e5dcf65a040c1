-- What the hashers of this crate compute.
use Rattle.std.specs.Prelude.{ℕ, List, fold, ◌++◌, ◌∷◌, []}
use Rattle.std.specs.Hash.{HashWrites, u64}
use Rattle.std.specs.Hash.FoldHasher.{initial, write, finish}

-- std's fast hasher over the seed and then what is written of a key
abbrev pub seeded : ℕ → HashWrites → ℕ
seeded seed writes = finish (fold write initial (u64 seed ++ writes))

-- and over the seed and then bytes, all at once
abbrev pub seeded_bytes : ℕ → List ℕ → ℕ
seeded_bytes seed bytes = seeded seed (bytes ∷ [])
