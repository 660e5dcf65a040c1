-- What is written is a block, with these numbers, sections and words.
use Rattle.std.proofs.Common.{◌≡◌, ℕ, ◌+◌, ◌-◌, ◌*◌, ◌<◌, List, ◌++◌, length, get_or, take, drop, replicate, sum_by, slice_index, All, refl, sym, ap, subst, ◌∙◌, append_assoc, length-append, length-drop, arith}
use Rattle.std.proofs.Math.Seq.{drop-append-add}
use Rattle.std.proofs.lemmas.List.{drop-drop, drop_at, get_or-drop, get_or_append_left, length-replicate, take_at}
use Rattle.std.proofs.lemmas.List.Elements.{All-replicate}
use Rattle.std.proofs.lemmas.List.FromFn.{fill_by_all}
use Rattle.std.specs.List.{slice_range}
use Rattle.bitm_block.specs.Checksum.{checksum_of}
use Rattle.bitm_block.specs.Header.{begin_in, finish_in, head_in, section_entry, section_in, sections_in, IsBlock, IsEntry, IsKept}
use Rattle.bitm_block.specs.Layout.{begin_of, end_of, head_of, room_of, words_of, AreShort}
use Rattle.bitm_block.specs.Written.{block_of, body_of, directory_of, entries_of, IsSealed}
use Rattle.bitm_block.specs.declared.head.Head.{Head}
use Rattle.bitm_block.specs.declared.layout.Section.{Section}
use Rattle.bitm_block.proofs.LayoutLemmas.{begin_more, words_fit}
use Rattle.bitm_block.proofs.WrittenLemmas.{body_len, body_part, entries_len, entry_item, part_of}

-- a section of a role and a number of items
abbrev section_with : ℕ → ℕ → Section
section_with role count = record { role = role; count = count }

section_same : (s : Section) (r n : ℕ) → r ≡ s.role → n ≡ s.count → section_with r n ≡ s
section_same s r n er en = ap (λ x. section_with x n) er ∙ ap (λ y. section_with s.role y) en

zeros_are : (xs : List ℕ) (n : ℕ) → xs ≡ replicate n 0 → All (λ w. w ≡ 0) xs
zeros_are xs n e = subst (All (λ (w : ℕ). w ≡ 0)) (sym e) (All-replicate (λ (w : ℕ). w ≡ 0) n 0 refl)

module _ (h : Head) (ss : List Section) (words : List ℕ) (short : AreShort ss) (long : length words ≡ sum_by room_of ss) where
  abbrev n : ℕ
  n = length ss

  abbrev none : Section
  none = section_with 0 0

  abbrev entries : List ℕ
  entries = entries_of (head_of n) ss words

  abbrev zeros : List ℕ
  zeros = replicate (head_of n - 16 - 4 * n) 0

  abbrev directory : List ℕ
  directory = directory_of ss words

  abbrev body : List ℕ
  body = body_of ss words

  abbrev block : List ℕ
  block = block_of h ss words

  abbrev before : ℕ → ℕ
  before i = sum_by room_of (take i ss)

  directory_len : length directory ≡ head_of n - 16
  directory_len =
      omega (arith, length-append entries zeros, entries_len (head_of n) ss words, length-replicate {A = ℕ} (head_of n - 16 - 4 * n) 0)

  block_len : length block ≡ end_of ss
  block_len = omega (arith, length-append directory body, directory_len, body_len ss words long)

  directory_is : slice_range block 16 (head_of n) ≡ directory
  directory_is = take_at directory body (head_of n - 16) directory_len

  -- the words of the entries, and those after the directory
  in_entries : (k : ℕ) → k < 4 * n → slice_index block (16 + k) ≡ get_or entries k 0
  in_entries k less =
      sym (get_or-drop 16 block k 0)
      ∙ get_or_append_left directory body 0 k (omega (arith, less, directory_len))
      ∙ get_or_append_left entries zeros 0 k (omega (arith, less, entries_len (head_of n) ss words))

  in_body : (p : ℕ) → drop (head_of n + p) block ≡ drop p body
  in_body p =
      let far : head_of n + p ≡ 16 + (length directory + p) = omega (arith, directory_len) in
      ap (λ k. drop k block) far ∙ sym (drop-drop (length directory + p) 16 block) ∙ drop-append-add directory body p

  entry_word : (i k : ℕ) → i < n → k < 4 → slice_index block (16 + 4 * i + k) ≡ get_or entries (4 * i + k) 0
  entry_word i k less few =
      let same : 16 + 4 * i + k ≡ 16 + (4 * i + k) = omega arith in
      ap (λ p. slice_index block p) same ∙ in_entries (4 * i + k) (omega (arith, less, few))

  entry_is : (i : ℕ) → i < n → section_entry block i ≡ get_or ss i none
  entry_is i less =
      let item = entry_item (head_of n) ss words i none less in
      section_same (get_or ss i none) (slice_index block (16 + 4 * i)) (slice_index block (16 + 4 * i + 2))
      (in_entries (4 * i) (omega (arith, less)) ∙ item.role) (entry_word i 2 less (omega arith) ∙ item.count)

  sections_are : sections_in block ≡ ss
  unfolding sections_in
  sections_are = sym (fill_by_all (section_entry block) ss n none refl (λ k less. sym (entry_is k less)))

  begin_is : (i : ℕ) → begin_in block i ≡ begin_of ss i
  begin_is i = ap (λ l. begin_of l i) sections_are

  finish_is : (i : ℕ) → i < n → finish_in block i ≡ head_of n + (before i + words_of (get_or ss i none))
  finish_is i less = omega (arith, begin_is i, ap words_of (entry_is i less))

  is_entry : (i : ℕ) → i < n → IsEntry block i
  is_entry i less =
      let item = entry_item (head_of n) ss words i none less in
      record {
        at = entry_word i 1 less (omega arith) ∙ item.at_is ∙ ap (λ x. 8 * x) (sym (begin_is i));
        count = omega (arith, entry_word i 2 less (omega arith), item.count, short.counts i none less);
      }

  padding_is : slice_range block (16 + 4 * n) (head_of n) ≡ zeros
  padding_is =
      ap (take (head_of n - (16 + 4 * n)))
      (sym (drop-drop (4 * n) 16 block)
      ∙ ap (drop (4 * n)) (append_assoc entries zeros body)
      ∙ drop_at entries (zeros ++ body) (4 * n) (entries_len (head_of n) ss words))
      ∙ take_at zeros body (head_of n - (16 + 4 * n)) (omega (arith, length-replicate {A = ℕ} (head_of n - 16 - 4 * n) 0))

  section_is : (i : ℕ) → i < n → section_in block i ≡ part_of ss words i (get_or ss i none)
  section_is i less =
      let w = words_of (get_or ss i none) in
      let len : finish_in block i - begin_in block i ≡ w = omega (arith, ap words_of (entry_is i less)) in
      ap (λ m. take m (drop (begin_in block i) block)) len
      ∙ ap (λ p. take w (drop p block)) (begin_is i)
      ∙ ap (take w) (in_body (before i))
      ∙ (body_part ss words i none long less).part

  gap_is : (i : ℕ) → i < n
      → slice_range block (finish_in block i) (begin_in block (i + 1)) ≡ replicate (room_of (get_or ss i none) - words_of (get_or ss i none)) 0
  gap_is i less =
      let s = get_or ss i none in
      let w = words_of s in
      let r = room_of s - w in
      let len : begin_in block (i + 1) - finish_in block i ≡ r =
      omega (arith, begin_is (i + 1), finish_is i less, begin_more ss i none less, words_fit s) in
      ap (λ m. take m (drop (finish_in block i) block)) len
      ∙ ap (λ p. take r (drop p block)) (finish_is i less)
      ∙ ap (take r) (in_body (before i + w))
      ∙ (body_part ss words i none long less).zeros

  is_kept : (i : ℕ) → i < n → IsKept block i
  is_kept i less = record {
    checksum =
        entry_word i 3 less (omega arith)
        ∙ (entry_item (head_of n) ss words i none less).checksum
        ∙ ap checksum_of (sym (section_is i less));
    padding = zeros_are _ _ (gap_is i less);
  }

  is_block : IsBlock block
  is_block = record {
    header = record {
      summed = record {
        marked = record { long = omega (arith, block_len); letters = refl; version = (omega arith, omega arith) };
        checksum = refl;
      };
      needs = refl;
      spare = refl;
      free = refl;
    };
    size = ap (λ x. 8 * x) (sym block_len);
    directory = record {
      few = short.few;
      head = omega (arith, block_len);
      checksum = ap checksum_of (sym directory_is);
      padding = zeros_are _ _ padding_is;
      entries = is_entry;
      whole = block_len ∙ ap end_of (sym sections_are);
    };
  }

  head_is : head_in block ≡ h
  head_is = refl

-- what is written around the sections of a block is a block
pub sealed : (h : Head) (ss : List Section) (old : List ℕ) → AreShort ss → length old ≡ end_of ss
    → IsSealed h ss old (block_of h ss (drop (head_of (length ss)) old))
sealed h ss old short room =
    let words = drop (head_of (length ss)) old in
    let long : length words ≡ sum_by room_of ss = omega (arith, length-drop (head_of (length ss)) old, room) in
    let new = block_of h ss words in
    record {
      is_block = is_block h ss words short long;
      verified = is_kept h ss words short long;
      version = refl;
      head_is = head_is h ss words short long;
      sections_are = sections_are h ss words short long;
      kept = λ i less.
          let s = get_or ss i (section_with 0 0) in
          let len : finish_in new i - begin_in new i ≡ words_of s = omega (arith, ap words_of (entry_is h ss words short long i less)) in
          section_is h ss words short long i less
          ∙ ap (take (words_of s)) (drop-drop (sum_by room_of (take i ss)) (head_of (length ss)) old)
          ∙ ap (λ p. take (words_of s) (drop p old)) (sym (begin_is h ss words short long i))
          ∙ ap (λ m. take m (drop (begin_in new i) old)) (sym len);
    }
