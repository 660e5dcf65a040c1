-- Blocks of bits of which few are 1.
use Rattle.std.specs.Prelude.{ℕ, List}
use Rattle.sequence_block.specs.SparseBlock as sparse
use Rattle.program_files.specs.Bits.{HasEnd}

-- the block is that of bits of which those at these positions are 1, up to the last of these
pub record IsSparseOf (xs block : List ℕ) : Type 0 where
  pub len : ℕ
  pub end : HasEnd xs len
  pub block_of : sparse.IsBlockOf xs len block
