-- Sparse bits in a block that is extended are those of before.
use Rattle.std.proofs.Common.{◌≡◌, ℕ, ◌≤◌, List, slice_index, ap, sym, subst, ◌∙◌}
use Rattle.bitm_block.specs.Header.{count_in}
use Rattle.bitm_block.specs.declared.head.Head.{Head}
use Rattle.bitm_block.specs.declared.layout.Section.{Section}
use Rattle.block_sections.specs.Extended.{IsExtended}
use Rattle.elias_fano.specs.SequenceParts.{SequenceParts}
use Rattle.block_sections.proofs.KeptSequences.{opened_sequence, sequence_is, sound_sequence}
use Rattle.block_sections.specs.Kept.{AddsNoHints}
use Rattle.block_sections.specs.Sparse.{KeepsSparse}
use Rattle.sequence_block.specs.Block.{sequence_in}
use Rattle.sequence_block.specs.SparseBlock.{parts_of, sparse_in, HoldsBits, HoldsOnes, IsSoundBlock, SparseParts}

module _ (block : List ℕ) (added : Section) (words new : List ℕ) (free : AddsNoHints 4 block added) (is : IsExtended block added words new) where
  sparse_is : 4 ≤ count_in block → sparse_in new ≡ sparse_in block
  sparse_is four =
      ap (λ (s : SequenceParts). parts_of s (slice_index new 9)) (sequence_is block added words new free is four)
      ∙ ap (λ (h : Head). parts_of (sequence_in block) h.b) is.head_is

  sound_sparse : IsSoundBlock block → IsSoundBlock new
  sound_sparse old = record {
    sequence = sound_sequence block added words new free is 4 old.sequence;
    bits = subst (λ (p : SparseParts). HoldsBits p) (sym (sparse_is old.sequence.sequence_block.sections.many)) old.bits;
  }

  pub keeps_sparse : KeepsSparse block new
  keeps_sparse = record {
    opened = opened_sequence block added words new free is 4;
    parts = λ old. sparse_is old.sections.many;
    sound = sound_sparse;
    bits = λ xs n old.
        let same = sparse_is old.sound.sequence.sequence_block.sections.many in record {
          sound = sound_sparse old.sound;
          ones = subst (λ (p : SparseParts). HoldsOnes xs p) (sym same) old.ones;
          len = ap (λ (p : SparseParts). p.len) same ∙ old.len;
        };
  }
