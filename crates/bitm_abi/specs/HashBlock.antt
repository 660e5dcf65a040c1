-- A hash in a block as C passes it.
use Rattle.std.specs.Prelude.{ℕ}
use Rattle.hash_block.specs.Parts.{HashParts}
use Rattle.bitm_abi.specs.Hash.{hash_lists}
use Rattle.bitm_abi.specs.declared.hash.Hash.{Hash}

-- a hash, and the seed by which keys are hashed
abbrev pub hash_parts : Hash → ℕ → HashParts
hash_parts hash seed = record { lists = hash_lists hash; sizes = hash.sizes.now; keys = hash.keys; seed = seed }
