-- A perfect hash with seeds in a block as C passes it: the block once more as bytes, of which the seeds are a part.
use Rattle.std.specs.Prelude.{◌≡◌, ℕ, ◌*◌, List, drop, length, slice_index, take}
use Rattle.bitm_block.specs.Header.{begin_in}
use Rattle.hash_block.specs.SeededBlock.{IsSeededBlock}

-- as many bytes as those of a block's section of seeds, at its position
abbrev pub seed_bytes : List ℕ → List ℕ → List ℕ
seed_bytes block bytes = take (slice_index block 30) (drop (8 * begin_in block 3) bytes)

-- header and directory are those of a hash with seeds, and there are as many bytes
pub record CanBeOpened (block bytes : List ℕ) : Type 0 where
  pub seeded : IsSeededBlock block
  pub len : length bytes ≡ 8 * length block
