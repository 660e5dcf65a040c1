-- The first sections of a block that is extended are those of before, and so is what they hold.
use Rattle.std.proofs.Common.{◌≡◌, ℕ, ◌+◌, ◌*◌, ◌<◌, ◌≤◌, List, get_or, length, slice_index, ap, sym, subst, ◌∙◌, arith}
use Rattle.std.proofs.lemmas.List.{get_or_push}
use Rattle.std.specs.Int.{div_ceil}
use Rattle.bitm_block.proofs.HeaderLemmas.{section_at, sections_len}
use Rattle.bitm_block.specs.Header.{count_in, section_entry, section_in, sections_in}
use Rattle.bitm_block.specs.Layout.{no_section}
use Rattle.bitm_block.specs.declared.head.Head.{Head}
use Rattle.bitm_block.specs.declared.layout.Section.{Section}
use Rattle.bitm_tables.specs.Tables.{bits_in, HasSizes, HasTables, Lists}
use Rattle.bitm_view.specs.Block.{AreFirst}
use Rattle.bitm_view.specs.Cut.{cut_at}
use Rattle.bitm_view.specs.BitsBlock.{bits_in_block, IsBitsBlock, IsSoundBlock}
use Rattle.block_sections.proofs.ExtendLemmas.{count_is, entry_is, kind_kept}
use Rattle.block_sections.specs.Extended.{IsExtended}
use Rattle.block_tables.specs.Sections.{tables_in}
use Rattle.block_sections.specs.Kept.{KeepsIndex}
use Rattle.tables_view.specs.Sizes.{lists_of}

module _ (block : List ℕ) (added : Section) (words new : List ℕ) (is : IsExtended block added words new) where
  pub role_is : (i : ℕ) → i < count_in block → (section_entry new i).role ≡ (section_entry block i).role
  role_is i less = ap (λ (s : Section). s.role) (entry_is block added words new is i less)

  -- the section that is added has its role at the end of the directory
  pub last_role : slice_index new (16 + 4 * count_in block) ≡ added.role
  last_role =
      ap (λ (s : Section). s.role)
      (sym (section_at new (count_in block) no_section (omega (arith, count_is block added words new is)))
      ∙ ap (λ (l : List Section). get_or l (count_in block) no_section) is.sections_are
      ∙ get_or_push (sections_in block) added no_section (count_in block) (sections_len block))

  pub tables_are : 3 ≤ count_in block → tables_in new ≡ tables_in block
  tables_are three =
      ap (λ w. lists_of w (section_in new 1) (section_in new 2)) (is.kept 0 (omega (arith, three)))
      ∙ ap (λ u. lists_of (section_in block 0) u (section_in new 2)) (is.kept 1 (omega (arith, three)))
      ∙ ap (λ l. lists_of (section_in block 0) (section_in block 1) l) (is.kept 2 (omega (arith, three)))

  -- ---- bits with their index
  len_is : (bits_in_block new).len ≡ (bits_in_block block).len
  len_is = ap (λ (h : Head). h.len) is.head_is

  opened_bits : IsBitsBlock block → IsBitsBlock new
  opened_bits old =
      let tables = tables_are old.sections.many in record {
        is_block = is.is_block;
        sections = kind_kept block added words new is _ _ old.sections;
        sized = subst (λ (t : Lists). HasSizes t) (sym tables) old.sized;
        words_len = ap (λ (t : Lists). length t.words) tables ∙ old.words_len ∙ ap (λ n. div_ceil n 64) (sym len_is);
      }

  sound_bits : IsSoundBlock block → IsSoundBlock new
  sound_bits old = record {
    bits_block = opened_bits old.bits_block;
    verified = is.verified;
    tables = subst (λ (t : Lists). HasTables t) (sym (tables_are old.bits_block.sections.many)) old.tables;
  }

  pub keeps_index : KeepsIndex block new
  keeps_index = record {
    opened = opened_bits;
    parts = λ old. ap (λ t. cut_at t (bits_in_block new).len) (tables_are old.sections.many) ∙ ap (cut_at (tables_in block)) len_is;
    sound = sound_bits;
    bits = λ b n old. record {
      sound = sound_bits old.sound;
      len = len_is ∙ old.len;
      bits = subst (λ (t : Lists). AreFirst b n (bits_in t)) (sym (tables_are old.sound.bits_block.sections.many)) old.bits;
    };
  }
