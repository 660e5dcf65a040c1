-- What is written for bits is their block.
use Rattle.std.proofs.Common.{◌≡◌, ℕ, ◌+◌, ◌-◌, ◌<◌, Bool, List, [], ◌∷◌, ◌++◌, length, slice_index, sym, ap, ◌∙◌, subst, arith}
use Rattle.std.proofs.lemmas.List.{append-nil}
use Rattle.bitm_block.proofs.PartsLemmas.{is_of_kind, laid, part, part_is, section_is, HaveLengths, Part}
use Rattle.bitm_block.specs.Header.{section_in}
use Rattle.bitm_block.specs.Layout.{head_of, part_in}
use Rattle.bitm_block.specs.Written.{IsSealed}
use Rattle.bitm_block.specs.declared.head.Head.{Head}
use Rattle.bitm_block.specs.declared.layout.Section.{Section}
use Rattle.bitm_tables.specs.Tables.{Lists}
use Rattle.tables_view.specs.Sizes.{lists_of}
use Rattle.block_tables.specs.Sections.{tables_in}
use Rattle.bitm_view.specs.BitsBlock.{bits_head, bits_sections, lists_at, AreBits, IsBlockOf}

-- words and tables that are written one after another stand where the sections of the bits are
pub stands : (b : List Bool) (n : ℕ) (head to gap upper gap2 lower tail : List ℕ) → length head ≡ 32
    → HaveLengths (bits_sections n) (part to gap ∷ part upper gap2 ∷ part lower tail ∷ []) → AreBits b n (lists_of to upper lower)
    → AreBits b n (lists_at n (head ++ ((to ++ gap) ++ ((upper ++ gap2) ++ (lower ++ tail)))))
stands b n head to gap upper gap2 lower tail head_len lens are =
    let ss = bits_sections n in
    let ps : List Part = part to gap ∷ part upper gap2 ∷ part lower tail ∷ [] in
    let all : List ℕ = head ++ laid ps in
    let whole : all ≡ head ++ ((to ++ gap) ++ ((upper ++ gap2) ++ (lower ++ tail))) =
    ap (λ z. head ++ ((to ++ gap) ++ ((upper ++ gap2) ++ z))) (append-nil (lower ++ tail)) in
    let from : head_of (length ss) ≡ length head = omega (arith, head_len) in
    subst (λ (block : List ℕ). AreBits b n (lists_at n block)) whole
    (subst (λ (w : List ℕ). AreBits b n (lists_of w (part_in ss all 1) (part_in ss all 2))) (sym (part_is ss ps head 0 lens from (omega arith)))
    (subst (λ (u : List ℕ). AreBits b n (lists_of to u (part_in ss all 2))) (sym (part_is ss ps head 1 lens from (omega arith)))
    (subst (λ (l : List ℕ). AreBits b n (lists_of to upper l)) (sym (part_is ss ps head 2 lens from (omega arith))) are)))

-- a sealed block whose sections hold the bits is their block
pub block_is : (b : List Bool) (n : ℕ) (old new : List ℕ) → IsSealed (bits_head n) (bits_sections n) old new → AreBits b n (lists_at n old)
    → IsBlockOf b n new
block_is b n old new sealed are =
    let ss = bits_sections n in
    let at : (i : ℕ) → i < 3 → section_in new i ≡ part_in ss old i = λ i less. section_is (bits_head n) ss old new sealed i less in
    let lists : lists_at n old ≡ tables_in new =
    ap (λ w. lists_of w (part_in ss old 1) (part_in ss old 2)) (sym (at 0 (omega arith)))
    ∙ ap (λ u. lists_of (section_in new 0) u (part_in ss old 2)) (sym (at 1 (omega arith)))
    ∙ ap (λ l. lists_of (section_in new 0) (section_in new 1) l) (sym (at 2 (omega arith))) in
    let here : AreBits b n (tables_in new) = subst (λ (l : Lists). AreBits b n l) lists are in
    let len : slice_index new 3 ≡ n = ap (λ (h : Head). h.len) sealed.head_is in
    record {
      sound = record {
        bits_block = record {
          is_block = sealed.is_block;
          sections = is_of_kind (bits_head n) ss new sealed.head_is sealed.sections_are 3 (omega arith);
          sized = here.sized;
          words_len = omega (arith, here.words_len, len);
        };
        verified = sealed.verified;
        tables = here.tables;
      };
      len = len;
      bits = here.bits;
    }
