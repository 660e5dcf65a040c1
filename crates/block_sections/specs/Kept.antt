-- A block that is extended by a section holds what it held: each law is the contract of a function of `laws`.
use Rattle.std.specs.Prelude.{◌≡◌, ◌≢◌, ◌<◌, ◌⊎◌, ℕ, Bool, List}
use Rattle.bitm_block.specs.Header.{count_in}
use Rattle.bitm_block.specs.declared.layout.Section.{Section}
use Rattle.bitm_view.specs.BitsBlock.{bits_in_block, IsBitsBlock, IsBlockOf, IsSoundBlock}
use Rattle.block_sections.specs.Extended.{IsExtended}
use Rattle.sequence_block.specs.Block.{sequence_in, HoldsNumbers, IsBlockOfKind, IsSoundOfKind}

-- the section is not taken for hints, which are section i: the block has such a section already, or this one has another
-- role
abbrev pub AddsNoHints : ℕ → List ℕ → Section → Type 0
AddsNoHints i block added = (i < count_in block) ⊎ (added.role ≢ 22)

-- the new block is opened and checked as the old one, of the same parts, and is the block of the same numbers
pub record KeepsSequence (kind : ℕ) (block new : List ℕ) : Type 0 where
  pub opened : IsBlockOfKind kind block → IsBlockOfKind kind new
  pub parts : IsBlockOfKind kind block → sequence_in new ≡ sequence_in block
  pub sound : IsSoundOfKind kind block → IsSoundOfKind kind new
  pub numbers : (b : ℕ) (xs : List ℕ) → HoldsNumbers kind b xs block → HoldsNumbers kind b xs new

-- whichever section it is extended by that is not taken for hints, and whichever kind of sequence it is
abbrev pub KeepsSequences : Type 0
KeepsSequences =
    (kind : ℕ) (block : List ℕ) (added : Section) (words new : List ℕ) → AddsNoHints 4 block added → IsExtended block added words new → KeepsSequence kind block new

-- the same of bits with their index
pub record KeepsIndex (block new : List ℕ) : Type 0 where
  pub opened : IsBitsBlock block → IsBitsBlock new
  pub parts : IsBitsBlock block → bits_in_block new ≡ bits_in_block block
  pub sound : IsSoundBlock block → IsSoundBlock new
  pub bits : (b : List Bool) (n : ℕ) → IsBlockOf b n block → IsBlockOf b n new

abbrev pub KeepsIndexes : Type 0
KeepsIndexes = (block : List ℕ) (added : Section) (words new : List ℕ) → IsExtended block added words new → KeepsIndex block new
