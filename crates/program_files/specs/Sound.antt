-- Blocks of the numbers of a text that are as they were written.
use Rattle.std.specs.Prelude.{◌≡◌, ℕ, List, Some, IsSomeAnd}
use Rattle.bitm_view.specs.BitsBlock as bits
use Rattle.tree_block.specs.Block as louds
use Rattle.matrix_block.specs.Block as matrix
use Rattle.sequence_block.specs.Block as sequence
use Rattle.sequence_block.specs.SparseBlock as sparse
use Rattle.program_files.specs.Bytes.{words_of_bytes}
use Rattle.program_files.specs.Kind.{number_kind_in}
use Rattle.program_files.specs.declared.blocks.kind.Kind.{Kind}
use Rattle.program_files.specs.declared.blocks.kind.Kind.TheVariants.{Bits, Sequence, Sparse, Matrix, Tree}

-- the block is of the kind, as it was written
abbrev pub AreSoundNumbersOf : Kind → List ℕ → Type 0
AreSoundNumbersOf Bits block = bits.IsSoundBlock block
AreSoundNumbersOf Sequence block = sequence.IsSoundBlock block
AreSoundNumbersOf Sparse block = sparse.IsSoundBlock block
AreSoundNumbersOf Matrix block = matrix.IsSoundBlock block
AreSoundNumbersOf Tree block = louds.HoldsTree block

-- the block is of the kind that it says, as it was written
pub record AreSoundNumbers (block : List ℕ) : Type 0 where
  pub kind : Kind
  pub says : number_kind_in block ≡ Some kind
  pub sound : AreSoundNumbersOf kind block

-- the bytes are those of such a block
abbrev pub IsFileOfSoundNumbers : List ℕ → Type 0
IsFileOfSoundNumbers bytes = IsSomeAnd (words_of_bytes bytes) AreSoundNumbers
