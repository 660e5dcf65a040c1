-- The index of a text in a block that is extended is that of before.
use Rattle.std.proofs.Common.{◌≡◌, ℕ, ◌+◌, ◌*◌, ◌<◌, ◌≤◌, List, length, slice_index, ap, sym, subst, ◌∙◌, arith}
use Rattle.bitm_block.specs.Header.{count_in, section_in}
use Rattle.bitm_block.specs.declared.head.Head.{Head}
use Rattle.bitm_block.specs.declared.layout.Section.{Section}
use Rattle.block_sections.proofs.ExtendLemmas.{kind_kept}
use Rattle.block_sections.specs.Extended.{IsExtended}
use Rattle.block_sections.specs.Texts.{KeepsText}
use Rattle.levels_view.specs.Levels.{levels_of}
use Rattle.tables_view.specs.Sizes.{lists_of}
use Rattle.matrix_block.specs.Block.{MatrixParts}
use Rattle.text_block.specs.Block.{bytes_of_parts, levels_at, matrix_of, parts_in, parts_of, text_lists_at, HasTextLengths, HoldsIndex, IsSoundBlock, IsTextBlock, TextParts, text_of_parts}
use Rattle.text_block.specs.Made.{IsByteBlock, IsMadeBlock}
use Rattle.text_block.specs.Written.{text_head, IsBlockWith}
use Rattle.text_index.specs.Samples.{Indexed}

-- the matrix of n numbers of w bits whose five sections stand in a block from section i on
abbrev matrix_at : List ℕ → ℕ → ℕ → ℕ → MatrixParts
matrix_at block i n w = matrix_of (levels_at block i n w) (text_lists_at block i)

abbrev matrix_with : ℕ → ℕ → List ℕ → List ℕ → List ℕ → List ℕ → List ℕ → MatrixParts
matrix_with n w words upper lower ones zeros = matrix_of (levels_of n w ones zeros) (lists_of words upper lower)

module _ (block : List ℕ) (added : Section) (words new : List ℕ) (is : IsExtended block added words new) where
  matrix_is : (i n w : ℕ) → i + 4 < count_in block → matrix_at new i n w ≡ matrix_at block i n w
  matrix_is i n w inside =
      let s = section_in block in
      let t = section_in new in
      ap (λ x. matrix_with n w x (t (i + 1)) (t (i + 2)) (t (i + 3)) (t (i + 4))) (is.kept i (omega (arith, inside)))
      ∙ ap (λ x. matrix_with n w (s i) x (t (i + 2)) (t (i + 3)) (t (i + 4))) (is.kept (i + 1) (omega (arith, inside)))
      ∙ ap (λ x. matrix_with n w (s i) (s (i + 1)) x (t (i + 3)) (t (i + 4))) (is.kept (i + 2) (omega (arith, inside)))
      ∙ ap (λ x. matrix_with n w (s i) (s (i + 1)) (s (i + 2)) x (t (i + 4))) (is.kept (i + 3) (omega (arith, inside)))
      ∙ ap (λ x. matrix_with n w (s i) (s (i + 1)) (s (i + 2)) (s (i + 3)) x) (is.kept (i + 4) inside)

  parts_are : 13 ≤ count_in block → parts_in new ≡ parts_in block
  parts_are thirteen =
      let n = slice_index block 3 in
      let w = slice_index block 4 in
      let a = slice_index block 8 in
      let b = slice_index block 9 in
      let s = section_in block in
      let t = section_in new in
      ap (λ (h : Head). parts_of (matrix_at new 0 h.len h.width) (matrix_at new 6 (h.len + 1) 1) (t 5) (t 11) (t 12) h.a h.b) is.head_is
      ∙ ap (λ m. parts_of m (matrix_at new 6 (n + 1) 1) (t 5) (t 11) (t 12) a b) (matrix_is 0 n w (omega (arith, thirteen)))
      ∙ ap (λ m. parts_of (matrix_at block 0 n w) m (t 5) (t 11) (t 12) a b) (matrix_is 6 (n + 1) 1 (omega (arith, thirteen)))
      ∙ ap (λ x. parts_of (matrix_at block 0 n w) (matrix_at block 6 (n + 1) 1) x (t 11) (t 12) a b) (is.kept 5 (omega (arith, thirteen)))
      ∙ ap (λ x. parts_of (matrix_at block 0 n w) (matrix_at block 6 (n + 1) 1) (s 5) x (t 12) a b) (is.kept 11 (omega (arith, thirteen)))
      ∙ ap (λ x. parts_of (matrix_at block 0 n w) (matrix_at block 6 (n + 1) 1) (s 5) (s 11) x a b) (is.kept 12 (omega (arith, thirteen)))

  opened_text : IsTextBlock block → IsTextBlock new
  opened_text old =
      let thirteen = old.sections.many in
      record {
        is_block = is.is_block;
        sections = kind_kept block added words new is _ _ old.sections;
        lengths = subst (λ (p : TextParts). HasTextLengths p) (sym (parts_are thirteen)) old.lengths;
      }

  sound_text : IsSoundBlock block → IsSoundBlock new
  sound_text old = record {
    text_block = opened_text old.text_block;
    verified = is.verified;
    index = subst (λ (p : TextParts). HoldsIndex p) (sym (parts_are old.text_block.sections.many)) old.index;
  }

  same_text : (x : Indexed) (used : List ℕ) → IsBlockWith x used block → IsBlockWith x used new
  same_text x used old =
      let same = parts_are old.sound.text_block.sections.many in record {
        sound = sound_text old.sound;
        text = ap text_of_parts same ∙ old.text;
        letters = ap (λ (p : TextParts). length p.tables.starts) same ∙ old.letters;
        head_is =
            is.head_is ∙ old.head_is
            ∙ sym (ap (λ (h : Head). text_head (length x.text) x.width h.a x.step) is.head_is);
        used_is = ap (λ (p : TextParts). p.used) same ∙ old.used_is;
      }

  same_made : (text : List ℕ) (letters width step : ℕ) (used : List ℕ) → IsMadeBlock text letters width step used block
      → IsMadeBlock text letters width step used new
  same_made text letters width step used (order, suffixes, made) = (order, suffixes, same_text _ used made)

  same_bytes : (text : List ℕ) (step : ℕ) → IsByteBlock text step block → IsByteBlock text step new
  same_bytes text step old = record {
    used = old.used;
    uses = old.uses;
    made = same_made _ _ _ step old.used old.made;
    bytes = ap bytes_of_parts (parts_are old.made.2.sound.text_block.sections.many) ∙ old.bytes;
  }

  pub keeps_text : KeepsText block new
  keeps_text = record {
    opened = opened_text;
    parts = λ old. parts_are old.sections.many;
    sound = sound_text;
    letters = same_made;
    bytes = same_bytes;
  }
