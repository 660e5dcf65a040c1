-- Sections that stand one after another are those of the block.
use Rattle.std.proofs.Common.{◌≡◌, ℕ, ◌+◌, ◌-◌, ◌*◌, ◌^◌, ◌<◌, ◌≤◌, ◌==◌, ◌&&◌, nat_le, nat_lt, get_or, Bool, true, false, if◌then◌else◌, IsTrue, List, [], ◌++◌, length, take, drop, slice_index, append_assoc, length-append, refl, sym, ap, ⊎_elim, ◌∙◌, subst, arith}
use Rattle.std.proofs.lemmas.Bool.{true≢false, eqb-true}
use Rattle.std.proofs.lemmas.Bool.Decides.{eqb_tells}
use Rattle.std.proofs.Math.Seq.{drop-append_seam, drop-nil, take-nil}
use Rattle.std.proofs.lemmas.Grind.{common_steps}
use Rattle.std.proofs.lemmas.List.{append-nil, drop-append-le, length-drop, take-append-le}
use Rattle.std.specs.Int.{div_ceil}
use Rattle.std.specs.List.{slice_range}
use Rattle.bit_lists.specs.Bits.{bits_of}
use Rattle.bitm_tables.specs.Quarters.{AreQuartersOf}
use Rattle.bitm_tables.specs.Tables.{IsIndexed, Lists, bits_in}
use Rattle.bitm_tables.proofs.lemmas.QuarterLemmas.{records_of}
use Rattle.bit_lists.proofs.BitLaws.{bits_are_counted}
use Rattle.bitm_block.proofs.PartsLemmas.{count_is, cut, entry_is, is_of_kind, section_is}
use Rattle.bitm_block.specs.Header.{count_in, section_entry, section_in, IsBlock, IsVerified}
use Rattle.bitm_block.specs.Layout.{aligned, begin_of, head_of, no_section, part_in}
use Rattle.bitm_block.specs.Written.{IsSealed}
use Rattle.bitm_block.specs.declared.head.Head.{Head}
use Rattle.bitm_block.specs.declared.layout.Section.{Section}
use Rattle.bitm_selection.specs.Hints.{hint_words, hints_room, AreHints, Lead}
use Rattle.block_tables.proofs.HintLemmas.{hints_with_are}
use Rattle.block_tables.specs.Hints.{hints_with}
use Rattle.tables_view.specs.Sizes.{lists_of}
use Rattle.matrix_levels.specs.Levels.{columns}
use Rattle.matrix_levels.specs.Matrix.{matrix_words, quarters_for, IsMatrix, IsMatrixOf}
use Rattle.matrix_levels.proofs.lemmas.MatrixLemmas.{is-matrix, items_of-is, made-matrix}
use Rattle.levels_view.specs.Levels.{levels_of, levels_with}
use Rattle.matrix_block.specs.Block.{end_at, first_at, has_hints, has_quarters, hints_at, hints_in, hints_index, hints_of_numbers, items_in, lists_in, lower_at, lower_of_numbers, matrix_head, matrix_in, sections_with, ones_at, ones_in, ones_by_counts, parts_of, quarters_in, quarters_of_numbers, quarters_room, upper_at, upper_of_numbers, with_hints, zeros_at, zeros_in, AreHintsWritten, AreParts, CanHold, HasHints, HasLengths, HasMatrixSections, HaveHints, HaveQuarters, HoldsMatrix, IsBlockOf, MatrixParts, StandsIn}
use Rattle.levels_view.specs.Check.{AreCounts}

-- a part between two others, in a block that is these
part_of_block : (block front part back : List ℕ) (i j : ℕ) → block ≡ front ++ (part ++ back) → i ≡ length front → j ≡ i + length part → slice_range block i j ≡ part
part_of_block block front part back i j is from to = ap (λ b. slice_range b i j) is ∙ cut front part back i j from to

-- the lengths of a header, of the sections of a matrix and of what stands between them
pub record HaveLengths (i n w : ℕ) (head words gap upper gap2 lower gap3 ones gap4 zeros : List ℕ) : Type 0 where
  pub head_len : length head ≡ i
  pub words_len : length words ≡ matrix_words n w
  pub gap_len : length gap + i + matrix_words n w ≡ upper_at i n w
  pub upper_len : length upper ≡ upper_of_numbers n w
  pub gap2_len : length gap2 + upper_at i n w + upper_of_numbers n w ≡ lower_at i n w
  pub lower_len : length lower ≡ lower_of_numbers n w
  pub gap3_len : length gap3 + lower_at i n w + lower_of_numbers n w ≡ ones_at i n w
  pub ones_len : length ones ≡ w
  pub gap4_len : length gap4 + ones_at i n w + w ≡ zeros_at i n w
  pub zeros_len : length zeros ≡ w

-- sections that are written one after another stand where those of a matrix do
pub stands : (xs : List ℕ) (w i : ℕ) (head words gap upper gap2 lower gap3 ones gap4 zeros tail : List ℕ)
    → HaveLengths i (length xs) w head words gap upper gap2 lower gap3 ones gap4 zeros → AreParts xs w words upper lower ones zeros
    → StandsIn xs w i (head ++ ((words ++ gap) ++ ((upper ++ gap2) ++ ((lower ++ gap3) ++ ((ones ++ gap4) ++ (zeros ++ tail))))))
stands xs w i head words gap upper gap2 lower gap3 ones gap4 zeros tail lens parts =
    let n = length xs in
    let r5 = zeros ++ tail in
    let r4 = (ones ++ gap4) ++ r5 in
    let r3 = (lower ++ gap3) ++ r4 in
    let r2 = (upper ++ gap2) ++ r3 in
    let block = head ++ ((words ++ gap) ++ r2) in
    let f2 = head ++ (words ++ gap) in
    let f3 = f2 ++ (upper ++ gap2) in
    let f4 = f3 ++ (lower ++ gap3) in
    let f5 = f4 ++ (ones ++ gap4) in
    let at2 : block ≡ f2 ++ r2 = sym (append_assoc head (words ++ gap) r2) in
    let at3 : block ≡ f3 ++ r3 = at2 ∙ sym (append_assoc f2 (upper ++ gap2) r3) in
    let at4 : block ≡ f4 ++ r4 = at3 ∙ sym (append_assoc f3 (lower ++ gap3) r4) in
    let at5 : block ≡ f5 ++ r5 = at4 ∙ sym (append_assoc f4 (ones ++ gap4) r5) in
    let len2 : length f2 ≡ upper_at i n w =
    omega (arith, length-append head (words ++ gap), length-append words gap, lens.head_len, lens.words_len, lens.gap_len) in
    let len3 : length f3 ≡ lower_at i n w =
    omega (arith, length-append f2 (upper ++ gap2), length-append upper gap2, len2, lens.upper_len, lens.gap2_len) in
    let len4 : length f4 ≡ ones_at i n w =
    omega (arith, length-append f3 (lower ++ gap3), length-append lower gap3, len3, lens.lower_len, lens.gap3_len) in
    let len5 : length f5 ≡ zeros_at i n w =
    omega (arith, length-append f4 (ones ++ gap4), length-append ones gap4, len4, lens.ones_len, lens.gap4_len) in
    let words_are : slice_range block i (i + matrix_words n w) ≡ words =
    part_of_block block head words (gap ++ r2) i _ (ap (λ r. head ++ r) (append_assoc words gap r2)) (sym lens.head_len) (omega (arith, lens.words_len)) in
    let upper_are : slice_range block (upper_at i n w) (upper_at i n w + upper_of_numbers n w) ≡ upper =
    part_of_block block f2 upper (gap2 ++ r3) (upper_at i n w) _ (at2 ∙ ap (λ r. f2 ++ r) (append_assoc upper gap2 r3)) (sym len2) (omega (arith, lens.upper_len)) in
    let lower_are : slice_range block (lower_at i n w) (lower_at i n w + lower_of_numbers n w) ≡ lower =
    part_of_block block f3 lower (gap3 ++ r4) (lower_at i n w) _ (at3 ∙ ap (λ r. f3 ++ r) (append_assoc lower gap3 r4)) (sym len3) (omega (arith, lens.lower_len)) in
    let ones_are : slice_range block (ones_at i n w) (ones_at i n w + w) ≡ ones =
    part_of_block block f4 ones (gap4 ++ r5) (ones_at i n w) _ (at4 ∙ ap (λ r. f4 ++ r) (append_assoc ones gap4 r5)) (sym len4) (omega (arith, lens.ones_len)) in
    let zeros_are : slice_range block (zeros_at i n w) (zeros_at i n w + w) ≡ zeros =
    part_of_block block f5 zeros tail (zeros_at i n w) _ at5 (sym len5) (omega (arith, lens.zeros_len)) in
    let u = slice_range block (upper_at i n w) (upper_at i n w + upper_of_numbers n w) in
    let l = slice_range block (lower_at i n w) (lower_at i n w + lower_of_numbers n w) in
    let o = slice_range block (ones_at i n w) (ones_at i n w + w) in
    let z = slice_range block (zeros_at i n w) (zeros_at i n w + w) in
    subst (λ (x : List ℕ). AreParts xs w x u l o z) (sym words_are)
    (subst (λ (x : List ℕ). AreParts xs w words x l o z) (sym upper_are)
    (subst (λ (x : List ℕ). AreParts xs w words upper x o z) (sym lower_are)
    (subst (λ (x : List ℕ). AreParts xs w words upper lower x z) (sym ones_are)
    (subst (AreParts xs w words upper lower ones) (sym zeros_are) parts))))

-- bits that are the levels of numbers, with their tables and those of the levels, are a matrix
pub parts-are : (xs : List ℕ) (w k : ℕ) (words upper lower ones zeros : List ℕ) → CanHold xs w
    → length words ≡ matrix_words (length xs) w → length upper ≡ upper_of_numbers (length xs) w → length lower ≡ lower_of_numbers (length xs) w
    → length ones ≡ w → length zeros ≡ w → k ≡ w → take (w * length xs) (bits_of words) ≡ columns xs w w
    → IsIndexed (lists_of words upper lower) → AreCounts (levels_of (length xs) k ones zeros) (bits_of words)
    → AreParts xs w words upper lower ones zeros
parts-are xs w k words upper lower ones zeros can words_len upper_len lower_len ones_len zeros_len same levels indexed counts =
    let l = levels_of (length xs) w ones zeros in
    let b = bits_of words in
    let room : w * length xs ≤ length b = omega (arith, words_len, bits_are_counted words) in
    let made : IsMatrixOf xs l b =
    made-matrix xs l b w refl refl can.numbers.some can.numbers.most can.numbers.short can.fit room levels ones_len zeros_len refl refl
    (λ e. absurd (true≢false e)) (λ e. refl) (λ d less. (counts d (omega (arith, less, same))).ones_are)
    (λ d less. (counts d (omega (arith, less, same))).zeros_are) in
    record {
      words_len = words_len;
      upper_len = upper_len;
      lower_len = lower_len;
      ones_len = ones_len;
      zeros_len = zeros_len;
      matrix = is-matrix xs l (lists_of words upper lower) words indexed refl made;
      items = items_of-is xs w (length xs) b refl room levels can.fit;
    }

-- a part of the front of a list is part of the list
pub in-front : (front back : List ℕ) (i j : ℕ) → i ≤ j → j ≤ length front → slice_range (front ++ back) i j ≡ slice_range front i j
in-front front back i j order inside =
    ap (take (j - i)) (drop-append-le i front back (omega (arith, order, inside)))
    ∙ take-append-le (j - i) (drop i front) back (omega (arith, length-drop i front, inside))

-- what stands in the front of a block stands in the block
pub stands-on : (xs : List ℕ) (w i : ℕ) (front back : List ℕ) → length front ≡ end_at i (length xs) w → StandsIn xs w i front → StandsIn xs w i (front ++ back)
stands-on xs w i front back whole stands =
    let n = length xs in
    let block = front ++ back in
    let at : (p k : ℕ) → p + k ≤ end_at i n w → slice_range front p (p + k) ≡ slice_range block p (p + k) = λ p k less.
    sym (in-front front back p (p + k) (omega arith) (omega (arith, whole, less))) in
    let u = slice_range front (upper_at i n w) (upper_at i n w + upper_of_numbers n w) in
    let l = slice_range front (lower_at i n w) (lower_at i n w + lower_of_numbers n w) in
    let o = ones_in front i n w in
    let z = zeros_in front i n w in
    let words = slice_range block i (i + matrix_words n w) in
    let upper = slice_range block (upper_at i n w) (upper_at i n w + upper_of_numbers n w) in
    let lower = slice_range block (lower_at i n w) (lower_at i n w + lower_of_numbers n w) in
    let ones = ones_in block i n w in
    subst (AreParts xs w words upper lower ones) (at (zeros_at i n w) w (omega arith))
    (subst (λ (x : List ℕ). AreParts xs w words upper lower x z) (at (ones_at i n w) w (omega arith))
    (subst (λ (x : List ℕ). AreParts xs w words upper x o z) (at (lower_at i n w) (lower_of_numbers n w) (omega arith))
    (subst (λ (x : List ℕ). AreParts xs w words x l o z) (at (upper_at i n w) (upper_of_numbers n w) (omega arith))
    (subst (λ (x : List ℕ). AreParts xs w x u l o z) (at i (matrix_words n w) (omega arith)) stands))))

-- a part that begins a list, between two others
begins : (front part back : List ℕ) (i k : ℕ) → i ≡ length front → k ≤ length part → slice_range (front ++ (part ++ back)) i (i + k) ≡ take k part
begins front part back i k from less =
    let n : i + k - i ≡ k = omega arith in
    ap (λ j. take j (drop i (front ++ (part ++ back)))) n
    ∙ ap (λ j. take k (drop j (front ++ (part ++ back)))) from
    ∙ ap (take k) (drop-append_seam front (part ++ back))
    ∙ take-append-le k part back (omega (arith, less))

-- where quarters or hints are asked for, there is room for them
pub quarters-room : (n w : ℕ) (q : Bool) → IsTrue q → (k : ℕ) → k ≡ quarters_room n w q → quarters_of_numbers n w ≤ k
quarters-room n w false asked k is = absurd (true≢false (sym asked))
quarters-room n w true asked k is = omega (arith, is)

pub hints-room : (n w : ℕ) (h : Bool) → IsTrue h → (k : ℕ) → k ≡ (if h then aligned (hints_of_numbers n w) else 0) → hints_of_numbers n w ≤ k
hints-room n w false asked k is = absurd (true≢false (sym asked))
hints-room n w true asked k is = omega (arith, is)

-- quarters after a front that holds a matrix are those of the block
pub quarters-on : (n w i : ℕ) (front room back : List ℕ) → length front ≡ end_at i n w → quarters_of_numbers n w ≤ length room
    → AreQuartersOf (bits_in (lists_in front i n w)) (take (quarters_of_numbers n w) room) → HaveQuarters n w i (front ++ (room ++ back))
quarters-on n w i front room back whole less right =
    let block = front ++ (room ++ back) in
    let words : slice_range front i (i + matrix_words n w) ≡ slice_range block i (i + matrix_words n w) =
    sym (in-front front (room ++ back) i (i + matrix_words n w) (omega arith) (omega (arith, whole))) in
    let own : take (quarters_of_numbers n w) room ≡ slice_range block (end_at i n w) (end_at i n w + quarters_of_numbers n w) =
    sym (begins front room back (end_at i n w) (quarters_of_numbers n w) (sym whole) less) in
    subst (λ (qs : List ℕ). AreQuartersOf (bits_of (slice_range block i (i + matrix_words n w))) qs) own
    (subst (λ (ws : List ℕ). AreQuartersOf (bits_of ws) (take (quarters_of_numbers n w) room)) words right)

-- and so are hints after the quarters
pub hints-on : (n w i : ℕ) (q : Bool) (front quarters room : List ℕ) → length front ≡ end_at i n w → length quarters ≡ quarters_room n w q
    → hints_of_numbers n w ≤ length room
    → AreHintsWritten (ones_by_counts n (ones_in front i n w) (zeros_in front i n w)) (slice_range front i (i + matrix_words n w)) (take (hints_of_numbers n w) room)
    → HaveHints n w i q (front ++ (quarters ++ room))
hints-on n w i q front quarters room whole before less right =
    let block = front ++ (quarters ++ room) in
    let at : (p k : ℕ) → p + k ≤ end_at i n w → slice_range front p (p + k) ≡ slice_range block p (p + k) = λ p k inside.
    sym (in-front front (quarters ++ room) p (p + k) (omega arith) (omega (arith, whole, inside))) in
    let hints = take (hints_of_numbers n w) room in
    let last : front ++ (quarters ++ room) ≡ (front ++ quarters) ++ (room ++ []) =
    sym (append_assoc front quarters room) ∙ ap (λ r. (front ++ quarters) ++ r) (sym (append-nil room)) in
    let own : hints ≡ slice_range block (hints_at i n w q) (hints_at i n w q + hints_of_numbers n w) =
    sym (ap (λ b. slice_range b (hints_at i n w q) (hints_at i n w q + hints_of_numbers n w)) last
    ∙ begins (front ++ quarters) room [] (hints_at i n w q) (hints_of_numbers n w)
    (omega (arith, length-append front quarters, whole, before)) less) in
    let words = slice_range block i (i + matrix_words n w) in
    subst (λ (hs : List ℕ). AreHintsWritten (ones_by_counts n (ones_in block i n w) (zeros_in block i n w)) words hs) own
    (subst (λ (zs : List ℕ). AreHintsWritten (ones_by_counts n (ones_in block i n w) zs) words hints) (at (zeros_at i n w) w (omega arith))
    (subst (λ (os : List ℕ). AreHintsWritten (ones_by_counts n os (zeros_in front i n w)) words hints) (at (ones_at i n w) w (omega arith))
    (subst (λ (ws : List ℕ). AreHintsWritten (ones_by_counts n (ones_in front i n w) (zeros_in front i n w)) ws hints) (at i (matrix_words n w) (omega arith)) right)))

-- what a sealed block has: the sections of a matrix, which stood from word i on, and these quarters and hints
pub record HasParts (n w i : ℕ) (old new quarters hints : List ℕ) : Type 0 where
  pub is_block : IsBlock new
  pub verified : IsVerified new
  pub len_is : slice_index new 3 ≡ n
  pub width_is : slice_index new 4 ≡ w
  pub sections : HasMatrixSections new
  pub words_are : section_in new 0 ≡ slice_range old i (i + matrix_words n w)
  pub upper_are : section_in new 1 ≡ slice_range old (upper_at i n w) (upper_at i n w + upper_of_numbers n w)
  pub lower_are : section_in new 2 ≡ slice_range old (lower_at i n w) (lower_at i n w + lower_of_numbers n w)
  pub ones_are : section_in new 3 ≡ ones_in old i n w
  pub zeros_are : section_in new 4 ≡ zeros_in old i n w
  pub quarters_are : quarters_in new ≡ quarters
  pub hints_are : hints_in new ≡ hints

-- the quarters and the hints, if they are asked for
abbrev pub asked_quarters : ℕ → ℕ → ℕ → Bool → List ℕ → List ℕ
asked_quarters n w i q old = if q then slice_range old (end_at i n w) (end_at i n w + quarters_of_numbers n w) else []

abbrev pub asked_hints : ℕ → ℕ → ℕ → Bool → Bool → List ℕ → List ℕ
asked_hints n w i q h old = if h then slice_range old (hints_at i n w q) (hints_at i n w q + hints_of_numbers n w) else []

-- where the first section begins
first-is : (n w : ℕ) (q h : Bool) → head_of (length (sections_with n w q h)) ≡ first_at q h
first-is n w true true = refl
first-is n w true false = refl
first-is n w false true = refl
first-is n w false false = refl

module _ (n w : ℕ) (q h : Bool) (old new : List ℕ) (sealed : IsSealed (matrix_head n w) (sections_with n w q h) old new) where
  abbrev head : Head
  head = matrix_head n w

  abbrev sections : List Section
  sections = sections_with n w q h

  abbrev at : ℕ
  at = first_at q h

  section-at : (i p k : ℕ) → i < length sections → begin_of sections i ≡ p → part_in sections old i ≡ slice_range old (begin_of sections i) (begin_of sections i + k)
      → section_in new i ≡ slice_range old p (p + k)
  section-at i p k less here part =
      section_is head sections old new sealed i less ∙ part ∙ ap (λ a. slice_range old a (a + k)) here

  has-parts : (quarters hints : List ℕ) → quarters_in new ≡ quarters → hints_in new ≡ hints → HasParts n w at old new quarters hints
  has-parts quarters hints quarters_are hints_are = record {
    is_block = sealed.is_block;
    verified = sealed.verified;
    len_is = ap (λ (h : Head). h.len) sealed.head_is;
    width_is = ap (λ (h : Head). h.width) sealed.head_is;
    sections = is_of_kind head sections new sealed.head_is sealed.sections_are 5 (omega arith);
    words_are = section-at 0 at (matrix_words n w) (omega arith) (omega (arith, first-is n w q h)) refl;
    upper_are = section-at 1 (upper_at at n w) (upper_of_numbers n w) (omega arith) (omega (arith, first-is n w q h)) refl;
    lower_are = section-at 2 (lower_at at n w) (lower_of_numbers n w) (omega arith) (omega (arith, first-is n w q h)) refl;
    ones_are = section-at 3 (ones_at at n w) w (omega arith) (omega (arith, first-is n w q h)) refl;
    zeros_are = section-at 4 (zeros_at at n w) w (omega arith) (omega (arith, first-is n w q h)) refl;
    quarters_are = quarters_are;
    hints_are = hints_are;
  }

-- whether a sealed block has quarters
sixth : (n w : ℕ) (q h : Bool) (old new : List ℕ) → IsSealed (matrix_head n w) (sections_with n w q h) old new → 5 < length (sections_with n w q h)
    → slice_index new 36 ≡ (get_or (sections_with n w q h) 5 no_section).role
sixth n w q h old new sealed less =
    ap (λ (s : Section). s.role) (entry_is (matrix_head n w) (sections_with n w q h) old new sealed 5 less)

counted : (n w : ℕ) (q h : Bool) (old new : List ℕ) → IsSealed (matrix_head n w) (sections_with n w q h) old new
    → has_quarters new ≡ (nat_le 6 (length (sections_with n w q h)) && (slice_index new 36 == 6))
counted n w q h old new sealed =
    ap (λ k. nat_le 6 k && (slice_index new 36 == 6)) (count_is (matrix_head n w) (sections_with n w q h) old new sealed)

pub marked : (n w : ℕ) (q h : Bool) (old new : List ℕ) → IsSealed (matrix_head n w) (sections_with n w q h) old new → has_quarters new ≡ q
marked n w true true old new sealed =
    counted n w true true old new sealed ∙ ap (λ r. nat_le 6 7 && (r == 6)) (sixth n w true true old new sealed (omega arith))
marked n w true false old new sealed =
    counted n w true false old new sealed ∙ ap (λ r. nat_le 6 6 && (r == 6)) (sixth n w true false old new sealed (omega arith))
marked n w false true old new sealed =
    counted n w false true old new sealed ∙ ap (λ r. nat_le 6 6 && (r == 6)) (sixth n w false true old new sealed (omega arith))
marked n w false false old new sealed = counted n w false false old new sealed

-- and which section is that of its hints
index-is : (n w : ℕ) (q h : Bool) (old new : List ℕ) → IsSealed (matrix_head n w) (sections_with n w q h) old new
    → hints_index new ≡ (if q then 6 else 5)
index-is n w q h old new sealed = ap (λ (v : Bool). if v then 6 else 5) (marked n w q h old new sealed)

-- whether it has hints, where these are section i
has-at : (n w i : ℕ) (q h : Bool) (old new : List ℕ) → IsSealed (matrix_head n w) (sections_with n w q h) old new → hints_index new ≡ i
    → has_hints new ≡ (nat_lt i (length (sections_with n w q h)) && ((section_entry new i).role == 22))
has-at n w i q h old new sealed index =
    ap (λ k. nat_lt k (count_in new) && ((section_entry new k).role == 22)) index
    ∙ ap (λ k. nat_lt i k && ((section_entry new i).role == 22)) (count_is (matrix_head n w) (sections_with n w q h) old new sealed)

pub hinted : (n w : ℕ) (q h : Bool) (old new : List ℕ) → IsSealed (matrix_head n w) (sections_with n w q h) old new → has_hints new ≡ h
hinted n w true true old new sealed =
    has-at n w 6 true true old new sealed (index-is n w true true old new sealed)
    ∙ ap (λ (s : Section). nat_lt 6 7 && (s.role == 22)) (entry_is (matrix_head n w) (sections_with n w true true) old new sealed 6 (omega arith))
hinted n w true false old new sealed = has-at n w 6 true false old new sealed (index-is n w true false old new sealed)
hinted n w false true old new sealed =
    has-at n w 5 false true old new sealed (index-is n w false true old new sealed)
    ∙ ap (λ (s : Section). nat_lt 5 6 && (s.role == 22)) (entry_is (matrix_head n w) (sections_with n w false true) old new sealed 5 (omega arith))
hinted n w false false old new sealed = has-at n w 5 false false old new sealed (index-is n w false false old new sealed)

-- the quarters that were asked for
own-quarters : (n w : ℕ) (q h : Bool) (old new : List ℕ) → IsSealed (matrix_head n w) (sections_with n w q h) old new
    → quarters_in new ≡ asked_quarters n w (first_at q h) q old
own-quarters n w true h old new sealed =
    let at = first_at true h in
    ap (λ (v : Bool). if v then section_in new 5 else []) (marked n w true h old new sealed)
    ∙ section-at n w true h old new sealed 5 (end_at at n w) (quarters_of_numbers n w) (omega arith) (omega (arith, first-is n w true h)) refl
own-quarters n w false h old new sealed = ap (λ (v : Bool). if v then section_in new 5 else []) (marked n w false h old new sealed)

-- the hints that were asked for, where these are section i
hints-at : (n w i : ℕ) (q : Bool) (old new : List ℕ) → IsSealed (matrix_head n w) (sections_with n w q true) old new → hints_index new ≡ i
    → i < length (sections_with n w q true) → get_or (sections_with n w q true) i no_section ≡ record { role = 22; count = hints_of_numbers n w }
    → length (section_in new 0) ≡ matrix_words n w → hints_in new ≡ section_in new i
hints-at n w i q old new sealed index less entry long =
    let head = matrix_head n w in
    let sections = sections_with n w q true in
    let is = entry_is head sections old new sealed i less ∙ entry in
    ap (λ k. hints_with new k (hints_room (length (section_in new 0)))) index
    ∙ hints_with_are new i (hints_room (length (section_in new 0))) (omega (arith, less, count_is head sections old new sealed))
    (ap (λ (s : Section). s.role) is) (ap (λ (s : Section). s.count) is ∙ ap hints_room (sym long))

-- where there are hints, there are fewer than 2^26 words
pub some-words : (words k : ℕ) → k ≡ hints_room words → 0 < k → words < 2 ^ 26
some-words words k is some = grind (arith, common_steps)

-- no section is taken for hints past the last one
none-past : (new : List ℕ) (i len : ℕ) → count_in new ≤ i → hints_with new i len ≡ []
none-past new i len past = grind (arith, common_steps)

own-hints : (n w : ℕ) (q h : Bool) (old new : List ℕ) → IsSealed (matrix_head n w) (sections_with n w q h) old new
    → length (section_in new 0) ≡ matrix_words n w → hints_in new ≡ asked_hints n w (first_at q h) q h old
own-hints n w true true old new sealed long =
    hints-at n w 6 true old new sealed (index-is n w true true old new sealed) (omega arith) refl long
    ∙ section-at n w true true old new sealed 6 (hints_at 48 n w true) (hints_of_numbers n w) (omega arith) (omega arith) refl
own-hints n w false true old new sealed long =
    hints-at n w 5 false old new sealed (index-is n w false true old new sealed) (omega arith) refl long
    ∙ section-at n w false true old new sealed 5 (hints_at 40 n w false) (hints_of_numbers n w) (omega arith) (omega arith) refl
own-hints n w true false old new sealed long =
    none-past new (hints_index new) (hints_room (length (section_in new 0)))
    (omega (arith, index-is n w true false old new sealed, count_is (matrix_head n w) (sections_with n w true false) old new sealed))
own-hints n w false false old new sealed long =
    none-past new (hints_index new) (hints_room (length (section_in new 0)))
    (omega (arith, index-is n w false false old new sealed, count_is (matrix_head n w) (sections_with n w false false) old new sealed))

-- words with tables that hold compact levels hold them with quarters too
pub with-quarters : (n w : ℕ) (ones zeros quarters : List ℕ) (lists : Lists) → IsMatrix (levels_of n w ones zeros) lists
    → (length quarters == 0 ≡ false → AreQuartersOf (bits_in lists) quarters) → IsMatrix (levels_with n w ones zeros quarters) lists
with-quarters n w ones zeros quarters lists is right =
    let m = is.numbers in
    record {
      indexed = is.indexed;
      numbers = record {
        count = m.count;
        some = m.some;
        most = m.most;
        short = m.short;
        fit = m.fit;
        room = m.room;
        levels = m.levels;
        ones_len = m.ones_len;
        zeros_len = m.zeros_len;
        ones_are = m.ones_are;
        zeros_are = m.zeros_are;
        known_most = m.known_most;
        starts_len = m.starts_len;
        starts_are = m.starts_are;
        quarters_are = right;
        no_quarters = λ e. eqb-true (length quarters) 0 e;
      };
    }

-- a number for every eight words is one for every 512 bits
quarters-cover : (b q : ℕ) → q ≡ div_ceil (div_ceil b 64) 8 → b ≤ 512 * q
quarters-cover b q h = grind arith

-- no hints are those of any words
no-hints : (v : Bool) (words hints : List ℕ) → hints ≡ [] → AreHints v words hints
no-hints v words hints none = record {
  short = λ some. absurd (omega (arith, some, ap (λ (l : List ℕ). length l) none));
  pairs = λ k less. absurd (omega (arith, less, ap (λ (l : List ℕ). length l) none));
}

pub lead-none : (ones : ℕ) (words : List ℕ) → Lead ones [] words
lead-none ones words = record {
  of_ones = no-hints true words (take (hint_words ones) []) (take-nil (hint_words ones));
  of_zeros = no-hints false words (drop (hint_words ones) []) (drop-nil (hint_words ones));
}

-- a block with these parts is that of its numbers
parts-hold : (xs : List ℕ) (w i : ℕ) (old new quarters hints : List ℕ) → CanHold xs w → HasParts (length xs) w i old new quarters hints → StandsIn xs w i old
    → length quarters ≡ quarters_for (length quarters == 0) (matrix_words (length xs) w)
    → (length quarters == 0 ≡ false → AreQuartersOf (bits_in (lists_in old i (length xs) w)) quarters)
    → (0 < length hints → length hints ≡ hints_room (length (lists_in old i (length xs) w).words))
    → Lead (ones_by_counts (length xs) (ones_in old i (length xs) w) (zeros_in old i (length xs) w)) hints (lists_in old i (length xs) w).words
    → IsBlockOf xs w new
parts-hold xs w i old new quarters hints can has parts quarters_len right hints_len led =
    let n = length xs in
    let lists = lists_in old i n w in
    let ones = ones_in old i n w in
    let zeros = zeros_in old i n w in
    let l = levels_with n w ones zeros quarters in
    let whole : MatrixParts = record { levels = l; lists = lists; hints = hints } in
    let of : ℕ → ℕ → List ℕ → List ℕ → List ℕ → List ℕ → List ℕ → List ℕ → List ℕ → MatrixParts =
    λ m v os zs qs ws us ls hs. with_hints hs (parts_of (levels_with m v os zs qs) ws us ls) in
    let parts_are : matrix_in new ≡ whole =
    ap (λ m. of m (slice_index new 4) (section_in new 3) (section_in new 4) (quarters_in new) (section_in new 0) (section_in new 1) (section_in new 2) (hints_in new)) has.len_is
    ∙ ap (λ v. of n v (section_in new 3) (section_in new 4) (quarters_in new) (section_in new 0) (section_in new 1) (section_in new 2) (hints_in new)) has.width_is
    ∙ ap (λ x. of n w x (section_in new 4) (quarters_in new) (section_in new 0) (section_in new 1) (section_in new 2) (hints_in new)) has.ones_are
    ∙ ap (λ x. of n w ones x (quarters_in new) (section_in new 0) (section_in new 1) (section_in new 2) (hints_in new)) has.zeros_are
    ∙ ap (λ x. of n w ones zeros x (section_in new 0) (section_in new 1) (section_in new 2) (hints_in new)) has.quarters_are
    ∙ ap (λ x. of n w ones zeros quarters x (section_in new 1) (section_in new 2) (hints_in new)) has.words_are
    ∙ ap (λ x. of n w ones zeros quarters lists.words x (section_in new 2) (hints_in new)) has.upper_are
    ∙ ap (λ x. of n w ones zeros quarters lists.words lists.upper x (hints_in new)) has.lower_are
    ∙ ap (of n w ones zeros quarters lists.words lists.upper lists.lower) has.hints_are in
    let lengths : HasLengths whole = record {
      levels = record {
        numbers = can.numbers;
        ones_len = parts.ones_len;
        zeros_len = parts.zeros_len;
        known_most = omega arith;
        starts_len = refl;
        no_quarters = λ e. eqb-true (length quarters) 0 e;
        all_quarters = λ e. quarters-cover (w * n) (length quarters) (quarters_len ∙ ap (λ c. quarters_for c (matrix_words n w)) e);
      };
      words_len = parts.words_len;
      sized = record {
        short = omega (arith, can.numbers.short, parts.words_len);
        upper_len = omega (arith, parts.upper_len, parts.words_len);
        lower_len = omega (arith, parts.lower_len, parts.words_len);
      };
      quarters_len = quarters_len ∙ ap (quarters_for (length quarters == 0)) (sym parts.words_len);
      plain = record { known_none = refl; starts_none = refl; compact_is = refl };
      hints_len = hints_len;
    } in
    record {
      sound = record {
        matrix_block = record {
          is_block = has.is_block;
          sections = has.sections;
          lengths = subst (λ (p : MatrixParts). HasLengths p) (sym parts_are) lengths;
        };
        verified = has.verified;
        matrix = subst (λ (p : MatrixParts). HoldsMatrix p) (sym parts_are) (with-quarters n w ones zeros quarters lists parts.matrix right);
        hints = subst (λ (p : MatrixParts). HasHints p) (sym parts_are) led;
      };
      width = has.width_is;
      items = ap (λ (p : MatrixParts). items_in p) parts_are ∙ parts.items;
    }

-- where there are as many, none where there is none
as-many : (k m : ℕ) → k ≡ m → k ≡ (if k == 0 then 0 else m)
as-many k m same =
    let P : Bool → ℕ = λ v. (if v then 0 else m) in
    ⊎_elim (λ none. none.1 ∙ sym (ap P none.0)) (λ some. same ∙ sym (ap P some.0)) (eqb_tells k 0)

-- what stands in a block from word i on: the quarters and the hints that were asked for are right
module _ (xs : List ℕ) (w i : ℕ) (q : Bool) (old : List ℕ) (parts : StandsIn xs w i old) where
  abbrev n : ℕ
  n = length xs

  quarters-len : (asked : Bool) → (IsTrue asked → HaveQuarters n w i old)
      → length (asked_quarters n w i asked old) ≡ quarters_for (length (asked_quarters n w i asked old) == 0) (matrix_words n w)
  quarters-len false right = refl
  quarters-len true right =
      let h = right refl in
      as-many (length (asked_quarters n w i true old)) (quarters_of_numbers n w)
      (h.len ∙ ap (λ k. div_ceil k 512) (bits_are_counted (lists_in old i n w).words ∙ ap (λ k. 64 * k) parts.words_len) ∙ sym (records_of (matrix_words n w)))

  quarters-right : (asked : Bool) → (IsTrue asked → HaveQuarters n w i old) → length (asked_quarters n w i asked old) == 0 ≡ false
      → AreQuartersOf (bits_in (lists_in old i n w)) (asked_quarters n w i asked old)
  quarters-right false right some = absurd (true≢false some)
  quarters-right true right some = right refl

  hints-len : (asked : Bool) → (IsTrue asked → HaveHints n w i q old) → 0 < length (asked_hints n w i q asked old)
      → length (asked_hints n w i q asked old) ≡ hints_room (length (lists_in old i n w).words)
  hints-len false right some = absurd (omega (arith, some))
  hints-len true right some = (right refl).room

  hints-lead : (asked : Bool) → (IsTrue asked → HaveHints n w i q old)
      → Lead (ones_by_counts n (ones_in old i n w) (zeros_in old i n w)) (asked_hints n w i q asked old) (lists_in old i n w).words
  hints-lead false right = lead-none (ones_by_counts n (ones_in old i n w) (zeros_in old i n w)) (lists_in old i n w).words
  hints-lead true right = (right refl).lead

-- a sealed block whose sections hold a matrix is its block
pub block_is : (xs : List ℕ) (w : ℕ) (q h : Bool) (old new : List ℕ) → CanHold xs w
    → IsSealed (matrix_head (length xs) w) (sections_with (length xs) w q h) old new → StandsIn xs w (first_at q h) old
    → (IsTrue q → HaveQuarters (length xs) w (first_at q h) old) → (IsTrue h → HaveHints (length xs) w (first_at q h) q old) → IsBlockOf xs w new
block_is xs w q h old new can sealed parts right led =
    let n = length xs in
    let i = first_at q h in
    let quarters = asked_quarters n w i q old in
    let hints = asked_hints n w i q h old in
    let words = section-at n w q h old new sealed 0 i (matrix_words n w) (omega arith) (omega (arith, first-is n w q h)) refl in
    let long : length (section_in new 0) ≡ matrix_words n w = ap (λ (l : List ℕ). length l) words ∙ parts.words_len in
    parts-hold xs w i old new quarters hints can
    (has-parts n w q h old new sealed quarters hints (own-quarters n w q h old new sealed) (own-hints n w q h old new sealed long)) parts
    (quarters-len xs w i q old parts q right) (quarters-right xs w i q old parts q right)
    (hints-len xs w i q old parts h led) (hints-lead xs w i q old parts h led)
