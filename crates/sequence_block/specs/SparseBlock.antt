-- A block that holds sparse bits: the positions of their 1 bits as a monotone sequence.
use Rattle.std.specs.Prelude.{◌≡◌, ℕ, ◌^◌, ◌<◌, List, Bool, length, slice_index}
use Rattle.bitm_block.specs.Layout.{end_of}
use Rattle.elias_fano.specs.SequenceParts.{Holds, SequenceParts}
use Rattle.sequence_block.specs.Block.{sections_of, sequence_in, IsBlockOfKind, IsSoundOfKind}
use Rattle.sparse_bits.specs.Positions.{bits_at, AreBitPositions, ArePositionsHeld}

-- the parts of the sequence of positions, and how many bits there are: they may hold anything
pub record SparseParts : Type 0 where
  pub positions : SequenceParts
  pub len : ℕ

-- these, of a sequence and a number of bits
abbrev pub parts_of : SequenceParts → ℕ → SparseParts
parts_of positions n = record { positions = positions; len = n }

-- the parts are those of n bits whose 1 bits are at the positions xs, with n as they say
abbrev pub HoldsOnes : List ℕ → SparseParts → Type 0
HoldsOnes xs v = ArePositionsHeld xs (Holds xs v.positions) v.len

-- the bits whose 1 bits are at these positions
abbrev pub bits_of : List ℕ → SparseParts → List Bool
bits_of xs v = bits_at v.len 0 xs

-- the parts are those of some bits
abbrev pub HoldsBits : SparseParts → Type 0
HoldsBits v = (xs : List ℕ) × HoldsOnes xs v

-- the positions are the first five sections, and the header has the number of bits
abbrev pub sparse_in : List ℕ → SparseParts
sparse_in block = parts_of (sequence_in block) (slice_index block 9)

-- header and directory are those of sparse bits, and the sections are as long as the 1 bits need: nothing is said of
-- what they hold
abbrev pub IsSparseBlock : List ℕ → Type 0
IsSparseBlock = IsBlockOfKind 4

-- and the sections are as they were written, and hold some bits
pub record IsSoundBlock (block : List ℕ) : Type 0 where
  pub sequence : IsSoundOfKind 4 block
  pub bits : HoldsBits (sparse_in block)

-- the block is that of n bits whose 1 bits are at the positions xs
pub record IsBlockOf (xs : List ℕ) (n : ℕ) (block : List ℕ) : Type 0 where
  pub sound : IsSoundBlock block
  pub ones : HoldsOnes xs (sparse_in block)
  pub len : (sparse_in block).len ≡ n

-- positions of 1 bits among n, few enough, and a block as long as theirs
pub record CanHold (xs : List ℕ) (n : ℕ) (block : List ℕ) : Type 0 where
  pub short : length xs < 2 ^ 56
  pub positions : AreBitPositions n 0 xs
  pub room : length block ≡ end_of (sections_of xs)
