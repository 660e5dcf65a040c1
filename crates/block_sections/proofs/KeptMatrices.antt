-- A matrix in a block that is extended is that of before, if the section is not taken for its quarters or its hints.
use Rattle.std.proofs.Common.{◌≡◌, ◌≢◌, ℕ, ◌+◌, ◌*◌, ◌≤◌, ◌==◌, ◌&&◌, nat_le, Bool, true, false, if◌then◌else◌, List, [], ⊎_elim, length, slice_index, refl, ap, sym, subst, ◌∙◌, arith}
use Rattle.std.proofs.lemmas.Bool.{and_left, and_parts, and_right, cases_lt, le-leb, leb-true, ne_eqb}
use Rattle.bitm_block.specs.Header.{count_in, section_in}
use Rattle.bitm_block.specs.declared.head.Head.{Head}
use Rattle.bitm_block.specs.declared.layout.Section.{Section}
use Rattle.block_sections.proofs.ExtendLemmas.{count_is, kind_kept}
use Rattle.block_sections.specs.Extended.{IsExtended}
use Rattle.block_sections.proofs.HintsKept.{hints_with_kept}
use Rattle.block_sections.proofs.KeptLemmas.{last_role, role_is, tables_are}
use Rattle.block_sections.specs.Kept.{AddsNoHints}
use Rattle.block_sections.specs.Matrices.{AddsNoQuarters, KeepsMatrix}
use Rattle.bitm_selection.specs.Hints.{hints_room}
use Rattle.bitm_tables.specs.Tables.{Lists}
use Rattle.block_tables.specs.Hints.{hints_with}
use Rattle.block_tables.specs.Sections.{tables_in}
use Rattle.levels_view.specs.Levels.{levels_with}
use Rattle.matrix_block.specs.Block.{has_quarters, hints_in, hints_index, items_in, matrix_in, quarters_in, HasHints, HasLengths, HoldsMatrix, IsMatrixBlock, IsSoundBlock, MatrixParts}

-- a list or none, by a test
same_if : (t : Bool) (a b : List ℕ) → (t ≡ true → a ≡ b) → (if t then a else []) ≡ (if t then b else [])
same_if true a b e = e refl
same_if false a b e = refl

abbrev matrix_with : Lists → ℕ → ℕ → List ℕ → List ℕ → List ℕ → List ℕ → MatrixParts
matrix_with lists n w ones zeros quarters hints = record { levels = levels_with n w ones zeros quarters; lists = lists; hints = hints }

module _ (block : List ℕ) (added : Section) (words new : List ℕ) (none : AddsNoQuarters block added)
    (free : AddsNoHints (hints_index block) block added) (is : IsExtended block added words new) where
  -- the sixth section is that of quarters exactly where it was
  with_six : 6 ≤ count_in block → has_quarters new ≡ has_quarters block
  with_six six =
      let more : 6 ≤ count_in new = omega (arith, six, count_is block added words new is) in
      ap (λ t. t && (slice_index new 36 == 6)) (le-leb 6 (count_in new) more ∙ sym (le-leb 6 (count_in block) six))
      ∙ ap (λ r. nat_le 6 (count_in block) && (r == 6)) (role_is block added words new is 5 (omega (arith, six)))

  with_five : count_in block ≡ 5 → added.role ≢ 6 → has_quarters new ≡ has_quarters block
  with_five five other =
      let role : slice_index new 36 ≡ added.role = ap (λ n. slice_index new (16 + 4 * n)) (sym five) ∙ last_role block added words new is in
      and_right (nat_le 6 (count_in new)) (slice_index new 36 == 6) (ap (λ r. r == 6) role ∙ ne_eqb added.role 6 other)
      ∙ sym (and_left (nat_le 6 (count_in block)) (slice_index block 36 == 6) (ap (nat_le 6) five))

  flag_is : 5 ≤ count_in block → has_quarters new ≡ has_quarters block
  flag_is five =
      ⊎_elim (λ six. with_six six)
      (λ other. ⊎_elim (λ less. with_five (omega (arith, five, less)) other) (λ six. with_six six) (cases_lt (count_in block) 6))
      none

  quarters_are : 5 ≤ count_in block → quarters_in new ≡ quarters_in block
  quarters_are five =
      ap (λ t. if t then section_in new 5 else []) (flag_is five)
      ∙ same_if (has_quarters block) (section_in new 5) (section_in block 5)
      (λ has. is.kept 5 (omega (arith, leb-true 6 (count_in block) (and_parts (nat_le 6 (count_in block)) (slice_index block 36 == 6) has).0)))

  -- and so are the hints
  hints_are : 5 ≤ count_in block → hints_in new ≡ hints_in block
  hints_are five =
      let index : hints_index new ≡ hints_index block = ap (λ (t : Bool). if t then 6 else 5) (flag_is five) in
      ap (λ i. hints_with new i (hints_room (length (section_in new 0)))) index
      ∙ ap (λ (l : List ℕ). hints_with new (hints_index block) (hints_room (length l))) (is.kept 0 (omega (arith, five)))
      ∙ hints_with_kept block added words new is (hints_index block) (hints_room (length (section_in block 0))) free

  matrix_is : 5 ≤ count_in block → matrix_in new ≡ matrix_in block
  matrix_is five =
      let n = (matrix_in block).levels.len in
      let w = (matrix_in block).levels.width in
      ap (λ (h : Head). matrix_with (tables_in new) h.len h.width (section_in new 3) (section_in new 4) (quarters_in new) (hints_in new)) is.head_is
      ∙ ap (λ t. matrix_with t n w (section_in new 3) (section_in new 4) (quarters_in new) (hints_in new)) (tables_are block added words new is (omega (arith, five)))
      ∙ ap (λ l. matrix_with (tables_in block) n w l (section_in new 4) (quarters_in new) (hints_in new)) (is.kept 3 (omega (arith, five)))
      ∙ ap (λ l. matrix_with (tables_in block) n w (section_in block 3) l (quarters_in new) (hints_in new)) (is.kept 4 (omega (arith, five)))
      ∙ ap (λ q. matrix_with (tables_in block) n w (section_in block 3) (section_in block 4) q (hints_in new)) (quarters_are five)
      ∙ ap (matrix_with (tables_in block) n w (section_in block 3) (section_in block 4) (quarters_in block)) (hints_are five)

  opened_matrix : IsMatrixBlock block → IsMatrixBlock new
  opened_matrix old =
      let five = old.sections.many in record {
        is_block = is.is_block;
        sections = kind_kept block added words new is _ _ old.sections;
        lengths = subst (λ (p : MatrixParts). HasLengths p) (sym (matrix_is five)) old.lengths;
      }

  sound_matrix : IsSoundBlock block → IsSoundBlock new
  sound_matrix old = record {
    matrix_block = opened_matrix old.matrix_block;
    verified = is.verified;
    matrix = subst (λ (p : MatrixParts). HoldsMatrix p) (sym (matrix_is old.matrix_block.sections.many)) old.matrix;
    hints = subst (λ (p : MatrixParts). HasHints p) (sym (matrix_is old.matrix_block.sections.many)) old.hints;
  }

  pub keeps_matrix : KeepsMatrix block new
  keeps_matrix = record {
    opened = opened_matrix;
    parts = λ old. matrix_is old.sections.many;
    sound = sound_matrix;
    numbers = λ xs w old. record {
      sound = sound_matrix old.sound;
      width = ap (λ (h : Head). h.width) is.head_is ∙ old.width;
      items = ap items_in (matrix_is old.sound.matrix_block.sections.many) ∙ old.items;
    };
  }
