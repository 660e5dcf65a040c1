-- What is written for a sequence is its block.
use Rattle.std.proofs.Common.{◌≡◌, ℕ, zero, suc, ◌^◌, ◌<◌, ◌≤◌, List, [], ◌∷◌, ◌++◌, length, get_or, All, refl, sym, ap, ◌∙◌, subst, arith}
use Rattle.std.proofs.Math.Nat.{mul-le-mul_left}
use Rattle.std.proofs.lemmas.Grind.{common_steps}
use Rattle.std.proofs.lemmas.List.{append-nil}
use Rattle.std.specs.List.Sorted.{IsNonDecreasing}
use Rattle.bitm_block.proofs.PartsLemmas.{count_is, entry_is, is_of_kind, laid, part, part_is, section_is, HaveLengths, Part}
use Rattle.bitm_block.specs.Header.{section_entry, section_in}
use Rattle.bitm_block.specs.Layout.{head_of, no_section, part_in, AreShort}
use Rattle.bitm_block.specs.Written.{IsSealed}
use Rattle.bitm_block.specs.declared.head.Head.{Head}
use Rattle.bitm_block.specs.declared.layout.Section.{Section}
use Rattle.bitm_tables.specs.Tables.{HasSizes, Lists}
use Rattle.tables_view.specs.Sizes.{lists_of}
use Rattle.bitm_selection.specs.Hints.{hints_len}
use Rattle.block_tables.proofs.HintLemmas.{hints_are}
use Rattle.block_tables.specs.Hints.{hints_in}
use Rattle.block_tables.specs.Sections.{tables_in}
use Rattle.elias_fano.proofs.lemmas.SequenceLemmas.{is_sequence}
use Rattle.elias_fano.proofs.lemmas.SizeLemmas.{upper_few_at, width-small}
use Rattle.elias_fano.specs.SequenceParts.{parts_of, with_hints, HasLengths, Holds, SequenceParts}
use Rattle.elias_fano.specs.Parts.{width_of}
use Rattle.elias_fano.specs.Sequence.{largest}
use Rattle.elias_fano_view.proofs.RoomLemmas.{room-sizes}
use Rattle.elias_fano_view.specs.Sizes.{sizes_of}
use Rattle.elias_fano_view.specs.declared.sizes.Sizes.{Sizes}
use Rattle.sequence_block.specs.Block.{numbers_head, numbers_hints, sections_of, sequence_in, AreHintsWritten, ArePartsWritten, HasSequenceSections, HoldsNumbers, StandsIn}

-- the hints are those of the words
pub hints_of_words : (n u : ℕ) → numbers_hints n u ≡ hints_len n (sizes_of n u).words
unfolding numbers_hints
hints_of_words n u = refl

-- and few
hints_few : (n words : ℕ) → hints_len n words ≤ 2 ^ 25
hints_few n words = grind (arith, common_steps)

numbers_hints_few : (n u : ℕ) → numbers_hints n u ≤ 2 ^ 25
numbers_hints_few n u = omega (arith, hints_of_words n u, hints_few n (sizes_of n u).words)

-- the sections of a sequence are few and short
module _ (xs : List ℕ) (short : length xs < 2 ^ 56) (rising : IsNonDecreasing xs) (fits : (k : ℕ) → get_or xs k 0 < 2 ^ 64) where
  abbrev sizes : Sizes
  sizes = sizes_of (length xs) (largest xs)

  words_few : sizes.words < 2 ^ 57
  words_few = omega (arith, short, upper_few_at xs (width_of xs) (largest xs) refl refl)

  low_few : sizes.low < 2 ^ 57
  low_few =
      let width : width_of xs ≤ 63 = width-small xs (is_sequence xs short rising fits).small in
      omega (arith, short, mul-le-mul_left (length xs) width)

  counts : All (λ (s : Section). s.count < 2 ^ 58) (sections_of xs)
  counts zero d less = omega (arith, words_few)
  counts (suc zero) d less = omega (arith, words_few)
  counts (suc (suc zero)) d less = omega (arith, words_few)
  counts (suc (suc (suc zero))) d less = omega (arith, low_few)
  counts (suc (suc (suc (suc zero)))) d less = omega (arith, numbers_hints_few (length xs) (largest xs))
  counts (suc (suc (suc (suc (suc k))))) d less = absurd (omega (arith, less))

  pub are_short : AreShort (sections_of xs)
  are_short = record { few = omega arith; counts = counts; total = omega (arith, words_few, low_few, numbers_hints_few (length xs) (largest xs)) }

-- parts that are written one after another stand where the sections of the numbers are
pub stands : (xs head words gap upper gap2 lower gap3 low gap4 hints tail : List ℕ) → length head ≡ 40
    → HaveLengths (sections_of xs) (part words gap ∷ part upper gap2 ∷ part lower gap3 ∷ part low gap4 ∷ part hints tail ∷ [])
    → ArePartsWritten xs low words upper lower → AreHintsWritten xs words hints
    → StandsIn xs (head ++ ((words ++ gap) ++ ((upper ++ gap2) ++ ((lower ++ gap3) ++ ((low ++ gap4) ++ (hints ++ tail))))))
stands xs head words gap upper gap2 lower gap3 low gap4 hints tail head_len lens are led =
    let ss = sections_of xs in
    let ps : List Part = part words gap ∷ part upper gap2 ∷ part lower gap3 ∷ part low gap4 ∷ part hints tail ∷ [] in
    let all : List ℕ = head ++ laid ps in
    let whole : all ≡ head ++ ((words ++ gap) ++ ((upper ++ gap2) ++ ((lower ++ gap3) ++ ((low ++ gap4) ++ (hints ++ tail))))) =
    ap (λ z. head ++ ((words ++ gap) ++ ((upper ++ gap2) ++ ((lower ++ gap3) ++ ((low ++ gap4) ++ z))))) (append-nil (hints ++ tail)) in
    let from : head_of (length ss) ≡ length head = omega (arith, head_len) in
    let w : part_in ss all 0 ≡ words = part_is ss ps head 0 lens from (omega arith) in
    let u : part_in ss all 1 ≡ upper = part_is ss ps head 1 lens from (omega arith) in
    let l : part_in ss all 2 ≡ lower = part_is ss ps head 2 lens from (omega arith) in
    let d : part_in ss all 3 ≡ low = part_is ss ps head 3 lens from (omega arith) in
    let h : part_in ss all 4 ≡ hints = part_is ss ps head 4 lens from (omega arith) in
    subst (StandsIn xs) whole (
      subst (λ (p : List ℕ). ArePartsWritten xs p (part_in ss all 0) (part_in ss all 1) (part_in ss all 2)) (sym d)
          (subst (λ (p : List ℕ). ArePartsWritten xs low p (part_in ss all 1) (part_in ss all 2)) (sym w)
          (subst (λ (p : List ℕ). ArePartsWritten xs low words p (part_in ss all 2)) (sym u)
          (subst (λ (p : List ℕ). ArePartsWritten xs low words upper p) (sym l) are))),
      subst (λ (p : List ℕ). AreHintsWritten xs p (part_in ss all 4)) (sym w)
          (subst (λ (p : List ℕ). AreHintsWritten xs words p) (sym h) led),
    )

-- a sealed block whose sections hold the sequence is its block
module _ (kind b : ℕ) (xs old new : List ℕ) (sealed : IsSealed (numbers_head kind b (length xs) (width_of xs)) (sections_of xs) old new)
    (are : StandsIn xs old) where
  abbrev ss : List Section
  ss = sections_of xs

  abbrev head : Head
  head = numbers_head kind b (length xs) (width_of xs)

  abbrev low : List ℕ
  low = part_in ss old 3

  abbrev words : List ℕ
  words = part_in ss old 0

  abbrev upper : List ℕ
  upper = part_in ss old 1

  abbrev lower : List ℕ
  lower = part_in ss old 2

  abbrev hints : List ℕ
  hints = part_in ss old 4

  -- its parts, as they were written
  abbrev written : SequenceParts
  written = with_hints hints (parts_of (length xs) (width_of xs) low (lists_of words upper lower))

  at : (i : ℕ) → i < 5 → section_in new i ≡ part_in ss old i
  at i less = section_is head ss old new sealed i less

  lists : tables_in new ≡ lists_of words upper lower
  lists =
      ap (λ w. lists_of w (section_in new 1) (section_in new 2)) (at 0 (omega arith))
      ∙ ap (λ u. lists_of words u (section_in new 2)) (at 1 (omega arith))
      ∙ ap (λ l. lists_of words upper l) (at 2 (omega arith))

  entry : (i : ℕ) → i < 5 → section_entry new i ≡ get_or ss i no_section
  entry i less = entry_is head ss old new sealed i less

  same-hints : hints_in new 4 (length xs) (length words) ≡ hints
  same-hints =
      let count : (section_entry new 4).count ≡ hints_len (length xs) (length words) =
      ap (λ (s : Section). s.count) (entry 4 (omega arith)) ∙ hints_of_words (length xs) (largest xs) ∙ ap (hints_len (length xs)) (sym are.0.room.words_len) in
      let role : (section_entry new 4).role ≡ 22 = ap (λ (s : Section). s.role) (entry 4 (omega arith)) in
      hints_are new 4 (length xs) (length words) (omega (arith, count_is head ss old new sealed)) role count ∙ at 4 (omega arith)

  parts : sequence_in new ≡ written
  parts =
      let of : ℕ → ℕ → List ℕ → Lists → SequenceParts = λ n l digits t.
      with_hints (hints_in new 4 n (length t.words)) (parts_of n l digits t) in
      ap (λ (h : Head). of h.len h.width (section_in new 3) (tables_in new)) sealed.head_is
      ∙ ap (λ (d : List ℕ). of (length xs) (width_of xs) d (tables_in new)) (at 3 (omega arith))
      ∙ ap (λ (t : Lists). of (length xs) (width_of xs) low t) lists
      ∙ ap (λ (h : List ℕ). with_hints h (parts_of (length xs) (width_of xs) low (lists_of words upper lower))) same-hints

  holds : Holds xs (sequence_in new)
  holds =
      let whole : Holds xs written = record { are = are.0.holds.are; tables = are.0.holds.tables; lead = are.1.lead } in
      subst (λ (p : SequenceParts). Holds xs p) (sym parts) whole

  lengths : HasLengths written
  lengths = record {
    short = are.0.room.short;
    width = width-small xs are.0.holds.are.sequence.small;
    low = are.0.room.low_len;
    hints = λ some. are.1.room;
  }

  sizes_are : HasSizes (lists_of words upper lower)
  sizes_are = room-sizes xs low words upper lower (width_of xs) are.0.room refl words are.0.holds.are.upper_is

  sections : HasSequenceSections kind new
  sections = is_of_kind head ss new sealed.head_is sealed.sections_are 4 (omega arith)

  pub block_is : HoldsNumbers kind b xs new
  block_is = record {
    sound = record {
      sequence_block = record {
        is_block = sealed.is_block;
        sections = sections;
        sized = subst (λ (t : Lists). HasSizes t) (sym lists) sizes_are;
        lengths = subst (λ (p : SequenceParts). HasLengths p) (sym parts) lengths;
      };
      verified = sealed.verified;
      parts = (xs, holds);
    };
    holds = holds;
    besides = ap (λ (h : Head). h.b) sealed.head_is;
  }
