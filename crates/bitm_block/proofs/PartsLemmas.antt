-- Sections whose words were written one after another, before the block was sealed.
use Rattle.std.proofs.Common.{◌≡◌, ℕ, zero, suc, ◌+◌, ◌-◌, ◌<◌, ◌≤◌, List, [], ◌∷◌, ◌++◌, length, map, take, drop, get_or, sum_by, append_assoc, length-append, sym, ap, ◌∙◌, arith}
use Rattle.std.proofs.Math.Seq.{take-append_seam, drop-append_seam}
use Rattle.std.proofs.lemmas.List.{get_or-map, get_or-take, length-map, length-take-le}
use Rattle.std.proofs.lemmas.List.Sums.{sum_by-cons}
use Rattle.std.specs.List.{slice_range}
use Rattle.bitm_block.specs.Header.{begin_in, count_in, head_in, section_entry, section_in, sections_in, IsOfKind}
use Rattle.bitm_block.specs.Layout.{begin_of, head_of, no_section, part_in, room_of, words_of}
use Rattle.bitm_block.specs.Written.{IsSealed}
use Rattle.bitm_block.specs.declared.head.Head.{Head}
use Rattle.bitm_block.specs.declared.layout.Section.{Section}
use Rattle.bitm_block.proofs.HeaderLemmas.{section_at, sections_len}

-- a part between two others
pub cut : (front part back : List ℕ) (i j : ℕ) → i ≡ length front → j ≡ i + length part → slice_range (front ++ (part ++ back)) i j ≡ part
cut front part back i j from to =
    let len : j - i ≡ length part = omega (arith, to) in
    ap (λ k. take (j - i) (drop k (front ++ (part ++ back)))) from
    ∙ ap (take (j - i)) (drop-append_seam front (part ++ back))
    ∙ ap (λ k. take k (part ++ back)) len
    ∙ take-append_seam part back

-- the words of a section, and those up to the next one
pub record Part : Type 0 where
  pub words : List ℕ
  pub gap : List ℕ

abbrev pub part : List ℕ → List ℕ → Part
part words gap = record { words = words; gap = gap }

-- parts one after another
abbrev pub laid : List Part → List ℕ
laid [] = []
laid (p ∷ ps) = (p.words ++ p.gap) ++ laid ps

-- the parts have the lengths of these sections
abbrev pub HaveLengths : List Section → List Part → Type 0
HaveLengths [] ps = Unit {0}
HaveLengths (s ∷ ss) [] = ⊥
HaveLengths (s ∷ ss) (p ∷ ps) = (length p.words ≡ words_of s) × (length p.words + length p.gap ≡ room_of s) × HaveLengths ss ps

-- each part stands where its section is, after the words before the first
placed : (ss : List Section) (ps : List Part) (front : List ℕ) (at i : ℕ) → HaveLengths ss ps → at ≡ length front → i < length ss
    → slice_range (front ++ laid ps) (at + sum_by room_of (take i ss)) (at + sum_by room_of (take i ss) + words_of (get_or ss i no_section))
    ≡ (get_or ps i (part [] [])).words
placed [] ps front at i lens from less = absurd (omega (arith, less))
placed (s ∷ ss) [] front at i lens from less = absurd lens
placed (s ∷ ss) (p ∷ ps) front at zero lens from less =
    ap (λ z. slice_range (front ++ z) (at + 0) (at + 0 + words_of s)) (append_assoc p.words p.gap (laid ps))
    ∙ cut front p.words (p.gap ++ laid ps) (at + 0) (at + 0 + words_of s) (omega (arith, from)) (omega (arith, lens.0))
placed (s ∷ ss) (p ∷ ps) front at (suc i) lens from less =
    let before = sum_by room_of (take i ss) in
    let n = words_of (get_or ss i no_section) in
    let front' = front ++ (p.words ++ p.gap) in
    let moved : at + room_of s ≡ length front' =
    omega (arith, from, lens.1, length-append front (p.words ++ p.gap), length-append p.words p.gap) in
    let k = at + sum_by room_of (s ∷ take i ss) in
    let on : k ≡ at + room_of s + before = omega (arith, sum_by-cons room_of s (take i ss)) in
    ap (λ z. slice_range z k (k + n)) (sym (append_assoc front (p.words ++ p.gap) (laid ps)))
    ∙ ap (λ j. slice_range (front' ++ laid ps) j (j + n)) on
    ∙ placed ss ps front' (at + room_of s) i lens.2 moved (omega (arith, less))

pub part_is : (ss : List Section) (ps : List Part) (front : List ℕ) (i : ℕ) → HaveLengths ss ps → head_of (length ss) ≡ length front → i < length ss
    → part_in ss (front ++ laid ps) i ≡ (get_or ps i (part [] [])).words
part_is ss ps front i lens from less = placed ss ps front (head_of (length ss)) i lens from less

-- a block with this header and these sections is of the header's kind, with the roles of the first n
pub is_of_kind : (h : Head) (ss : List Section) (block : List ℕ) → head_in block ≡ h → sections_in block ≡ ss → (n : ℕ) → n ≤ length ss
    → IsOfKind h.kind (map (λ (s : Section). s.role) (take n ss)) block
is_of_kind h ss block head_is sections_are n few =
    let first = take n ss in
    let role : Section → ℕ = λ s. s.role in
    let many : length (map role first) ≡ n = length-map first role ∙ length-take-le n ss few in
    let count : count_in block ≡ length ss = sym (sections_len block) ∙ ap length sections_are in
    let entry : (i : ℕ) → i < n → section_entry block i ≡ get_or first i no_section =
    λ i less.
    sym (section_at block i no_section (omega (arith, less, count, few)))
    ∙ ap (λ (l : List Section). get_or l i no_section) sections_are
    ∙ sym (get_or-take n ss i no_section less) in
    record {
      kind_is = ap (λ (head : Head). head.kind) head_is;
      many = omega (arith, many, count, few);
      roles_are = λ i less.
          ap role (entry i (omega (arith, less, many)))
          ∙ sym (get_or-map role first i no_section 0 (omega (arith, less, length-map first role)));
    }

-- the sections of a sealed block are the words that stood at their positions
module _ (h : Head) (ss : List Section) (old new : List ℕ) (sealed : IsSealed h ss old new) where
  pub count_is : count_in new ≡ length ss
  count_is = sym (sections_len new) ∙ ap length sealed.sections_are

  pub entry_is : (i : ℕ) → i < length ss → section_entry new i ≡ get_or ss i no_section
  entry_is i less =
      sym (section_at new i no_section (omega (arith, less, count_is)))
      ∙ ap (λ (l : List Section). get_or l i no_section) sealed.sections_are

  begin_is : (i : ℕ) → begin_in new i ≡ begin_of ss i
  begin_is i = ap (λ (l : List Section). begin_of l i) sealed.sections_are

  pub section_is : (i : ℕ) → i < length ss
      → section_in new i ≡ part_in ss old i
  section_is i less =
      sealed.kept i less
      ∙ ap (λ p. slice_range old p (p + words_of (section_entry new i))) (begin_is i)
      ∙ ap (λ (s : Section). slice_range old (begin_of ss i) (begin_of ss i + words_of s)) (entry_is i less)
