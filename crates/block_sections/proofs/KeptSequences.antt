-- A sequence in a block that is extended is that of before.
use Rattle.std.proofs.Common.{◌≡◌, ℕ, ◌≤◌, List, length, ap, sym, subst, ◌∙◌, arith}
use Rattle.bitm_block.specs.Header.{count_in, section_in}
use Rattle.bitm_block.specs.declared.head.Head.{Head}
use Rattle.bitm_block.specs.declared.layout.Section.{Section}
use Rattle.bitm_tables.specs.Tables.{HasSizes, Lists}
use Rattle.block_sections.proofs.ExtendLemmas.{kind_kept}
use Rattle.block_sections.specs.Extended.{IsExtended}
use Rattle.block_tables.specs.Hints.{hints_in}
use Rattle.block_tables.specs.Sections.{tables_in}
use Rattle.elias_fano.specs.SequenceParts.{parts_of, with_hints, AreParts, HasLengths, Holds, SequenceParts}
use Rattle.block_sections.proofs.HintsKept.{hints_kept}
use Rattle.block_sections.proofs.KeptLemmas.{tables_are}
use Rattle.block_sections.specs.Kept.{AddsNoHints, KeepsSequence}
use Rattle.sequence_block.specs.Block.{sequence_in, IsBlockOfKind, IsSoundOfKind}

module _ (block : List ℕ) (added : Section) (words new : List ℕ) (free : AddsNoHints 4 block added) (is : IsExtended block added words new) where
  pub sequence_is : 4 ≤ count_in block → sequence_in new ≡ sequence_in block
  sequence_is four =
      let n = (sequence_in block).len in
      let w = (sequence_in block).width in
      let low = section_in block 3 in
      ap (λ (h : Head). with_hints (hints_in new 4 h.len (length (tables_in new).words)) (parts_of h.len h.width (section_in new 3) (tables_in new))) is.head_is
      ∙ ap (λ l. with_hints (hints_in new 4 n (length (tables_in new).words)) (parts_of n w l (tables_in new))) (is.kept 3 (omega (arith, four)))
      ∙ ap (λ (t : Lists). with_hints (hints_in new 4 n (length t.words)) (parts_of n w low t)) (tables_are block added words new is (omega (arith, four)))
      ∙ ap (λ hints. with_hints hints (parts_of n w low (tables_in block))) (hints_kept block added words new is 4 n (length (tables_in block).words) free)

  pub opened_sequence : (kind : ℕ) → IsBlockOfKind kind block → IsBlockOfKind kind new
  opened_sequence kind old =
      let four = old.sections.many in record {
        is_block = is.is_block;
        sections = kind_kept block added words new is _ _ old.sections;
        sized = subst (λ (t : Lists). HasSizes t) (sym (tables_are block added words new is (omega (arith, four)))) old.sized;
        lengths = subst (λ (p : SequenceParts). HasLengths p) (sym (sequence_is four)) old.lengths;
      }

  pub sound_sequence : (kind : ℕ) → IsSoundOfKind kind block → IsSoundOfKind kind new
  sound_sequence kind old = record {
    sequence_block = opened_sequence kind old.sequence_block;
    verified = is.verified;
    parts = subst (λ (p : SequenceParts). AreParts p) (sym (sequence_is old.sequence_block.sections.many)) old.parts;
  }

  pub keeps_sequence : (kind : ℕ) → KeepsSequence kind block new
  keeps_sequence kind = record {
    opened = opened_sequence kind;
    parts = λ old. sequence_is old.sections.many;
    sound = sound_sequence kind;
    numbers = λ b xs old. record {
      sound = sound_sequence kind old.sound;
      holds = subst (λ (p : SequenceParts). Holds xs p) (sym (sequence_is old.sound.sequence_block.sections.many)) old.holds;
      besides = ap (λ (h : Head). h.b) is.head_is ∙ old.besides;
    };
  }
